-- A row's length is the whole body of user data and opaque extensions, and otherwise the body up to its last byte that is not 0.
-- Rows of units one after another.
use Prim.Native.Nat.{ℕ, suc, ◌+◌, ◌≤◌, ◌<◌}
use mathlib.Core.Path.{◌≡◌, refl, sym, ◌∙◌, ap}
use mathlib.Core.Logic.{◌≢◌, inl, inr, ◌↔◌}
use mathlib.Core.List.{List, [], ◌∷◌, ◌++◌, map}
use mathlib.Core.Bool.{Bool, true, false, cond, not}
use native.Mathlib.Omega.{arith}
use native.Mathlib.Nat.{add_assoc}
use borrow.Author.Tests.{eqb-true, eqb-false, not-true}
use lib.Dec.{eqb}
use lib.ListN.{length, length-append, length-map, replicate}
use Rattle.answers.specs.Answers.{Outcome, done, refused}
use Rattle.answers.proofs.OutcomeLaws.{not_done}
use Rattle.std.proofs.lemmas.Bool.{and_parts}
use Rattle.bits.proofs.TestLaws.{by_test, contrary}
use Rattle.startcode.specs.Kinds.{kind_of}
use Rattle.startcode.specs.declared.Kind.{Kind}
use Rattle.startcode.specs.declared.Kind.TheVariants as kind
use Rattle.bodies.specs.Extensions.{numbered, HasNumber, is_opaque}
use Rattle.bodies.specs.declared.Scope.{Scope}
use Rattle.bodies.specs.declared.Scope.TheVariants.{Head, Picture}
use Rattle.grammar.specs.Lists.{concat_map}
use Rattle.grammar.specs.Rows.{Row, Placed, placed_units, rows_from, kept, trimmed, whole_body, is_whole, row_length, Opaque, Whole, Trimmed, LengthIs}
use Rattle.grammar.specs.Grammar.{bytes, Reading, units}
use Rattle.grammar.proofs.ListLaws.{concat_append}
use Rattle.grammar.proofs.Filing.{unit_of, units_of_placed}
use Rattle.grammar.proofs.KindLaws.{apart}
use Rattle.grammar.specs.Reader.{same_kind}

-- ── trailing zeros ──

-- the body is these and zeros, and the last of these is not 0
record Ends (body first : List ℕ) : Type 0 where
  zeros : ℕ
  is : body ≡ first ++ replicate zeros 0
  last : (before : List ℕ) (x : ℕ) → first ≡ before ++ x ∷ [] → x ≢ 0

no_last : {P : Type 0} (b : List ℕ) (y : ℕ) → [] ≡ b ++ y ∷ [] → P
no_last [] y e = let z : ◌≡◌ {A = ℕ} 0 1 = cc (ap length e) in absurd (omega arith)
no_last (c ∷ b) y e = let z : ◌≡◌ {A = ℕ} 0 1 = cc (ap length e) in absurd (omega arith)

one_last : (x : ℕ) → x ≢ 0 → (b : List ℕ) (y : ℕ) → x ∷ [] ≡ b ++ y ∷ [] → y ≢ 0
one_last x n [] y e = λ z. n (cc)
one_last x n (c ∷ b) y e = no_last b y (cc)

more_last : (x : ℕ) (first : List ℕ) → first ≢ [] → ((b : List ℕ) (y : ℕ) → first ≡ b ++ y ∷ [] → y ≢ 0) → (b : List ℕ) (y : ℕ) → x ∷ first ≡ b ++ y ∷ [] → y ≢ 0
more_last x first n last [] y e = absurd (n (cc))
more_last x first n last (c ∷ b) y e = last b y (cc)

keeps : (x : ℕ) (xs first : List ℕ) → Ends xs first → Ends (x ∷ xs) (kept x first)
keeps x xs [] h = let i = h.is in
    by_test (eqb x 0)
    (λ t. let z = eqb-true x 0 t in rw t (record { zeros = suc h.zeros; is = cc; last = λ b y e. no_last b y e }))
    (λ f. rw f (record { zeros = h.zeros; is = cc; last = one_last x (eqb-false x 0 f) }))
keeps x xs (y ∷ first) h = let i = h.is in
    record { zeros = h.zeros; is = cc; last = more_last x (y ∷ first) (λ e. let z : ◌≡◌ {A = ℕ} 0 1 = cc (ap length e) in omega arith) h.last }

ends : (body : List ℕ) → Ends body (trimmed body)
ends [] = record { zeros = 0; is = refl; last = λ b y e. no_last b y e }
ends (x ∷ xs) = keeps x xs (trimmed xs) (ends xs)

trims : (body : List ℕ) → Trimmed body (length (trimmed body))
trims body = let h = ends body in record { first = trimmed body; zeros = h.zeros; is = h.is; last = h.last; count = refl }

-- ── which bodies are whole ──

never : (n : ℕ) (body : List ℕ) → n < 16 → ¬ HasNumber body n → numbered n body ≡ false
never n body l h = by_test (numbered n body) (λ t. absurd (h (record { small = l; bits = t }))) (λ f. f)

opaque_iff : (p : Scope) (body : List ℕ) → (is_opaque p body ≡ true) ↔ Opaque p body
unfolding is_opaque
opaque_iff Head body = (
  (λ t. let (a, b) = and_parts (not (numbered 4 body)) (not (numbered 2 body)) t in
      ((λ h. contrary (numbered 4 body) h.bits (not-true _ a)), λ e h. contrary (numbered 2 body) h.bits (not-true _ b))),
  λ o. rw (never 4 body (omega arith) o.0, never 2 body (omega arith) (o.1 refl)) refl,
)
opaque_iff Picture body = (
  (λ t. ((λ h. contrary (numbered 4 body) h.bits (not-true _ t)), λ e. let z : ◌≡◌ {A = ℕ} 0 1 = cc in absurd (omega arith))),
  λ o. rw (never 4 body (omega arith) o.0) refl,
)

whole_iff : (p : Placed) → (is_whole p ≡ true) ↔ Whole p
whole_iff p = by_outcome (kind_of p.unit.code) refl
  where
    Says : Outcome Kind → Type 0
    Says o = (whole_body o p.scope p.unit.body ≡ true) ↔ Whole p

    other : (k : Kind) → kind_of p.unit.code ≡ done k → same_kind k kind.UserData ≡ false → same_kind k kind.Extension ≡ false → ¬ Whole p
    other k e d x (inl u) = apart k kind.UserData d e u
    other k e d x (inr h) = apart k kind.Extension x e h.0

    no : {P : Type 0} → false ≡ true → P
    no e = let z : ◌≡◌ {A = ℕ} 0 1 = cc in absurd (omega arith)

    by_outcome : (o : Outcome Kind) → kind_of p.unit.code ≡ o → Says o
    by_outcome (done kind.UserData) e = ((λ t. inl e), λ w. refl)
    by_outcome (done kind.Extension) e = let i = opaque_iff p.scope p.unit.body in
        ((λ t. inr (e, i.0 t)), λ w. elim w [ inl u ↦ apart kind.Extension kind.UserData refl e u | inr h ↦ i.1 h.1 ])
    by_outcome (done kind.Slice) e = (no, λ w. absurd (other kind.Slice e refl refl w))
    by_outcome (done kind.SequenceHeader) e = (no, λ w. absurd (other kind.SequenceHeader e refl refl w))
    by_outcome (done kind.SequenceEnd) e = (no, λ w. absurd (other kind.SequenceEnd e refl refl w))
    by_outcome (done kind.IPicture) e = (no, λ w. absurd (other kind.IPicture e refl refl w))
    by_outcome (done kind.PBPicture) e = (no, λ w. absurd (other kind.PBPicture e refl refl w))
    by_outcome (done kind.EditCode) e = (no, λ w. absurd (other kind.EditCode e refl refl w))
    by_outcome (refused n carried) e = (no, λ w. elim w [ inl u ↦ not_done (sym e ∙ u) | inr h ↦ not_done (sym e ∙ h.0) ])

pub length_is : (p : Placed) → LengthIs p (row_length p)
unfolding row_length
length_is p = record {
  whole = λ w. ap (λ (t : Bool). length (cond t p.unit.body (trimmed p.unit.body))) ((whole_iff p).1 w);
  trimmed = λ n. by_test (is_whole p) (λ t. absurd (n ((whole_iff p).0 t))) (λ f. rw f (trims p.unit.body));
}

-- ── no row is longer than its body ──

trimmed_le : (l : List ℕ) → length (trimmed l) ≤ length l
trimmed_le [] = omega arith
trimmed_le (x ∷ l) = kept_le x (trimmed l) (length l) (trimmed_le l)
  where
    kept_le : (x : ℕ) (l : List ℕ) (n : ℕ) → length l ≤ n → length (kept x l) ≤ suc n
    kept_le x [] n h = by_test (eqb x 0) (λ t. rw t (omega arith)) (λ f. rw f (omega arith))
    kept_le x (y ∷ l) n h = omega arith

pub length_le : (p : Placed) → row_length p ≤ length p.unit.body
unfolding row_length
length_le p = let t = trimmed_le p.unit.body in by_test (is_whole p) (λ w. rw w (omega arith)) (λ f. rw f t)

-- ── a row a unit ──

pub rows_length : (at : ℕ) (ps : List Placed) → length (rows_from at ps) ≡ length ps
rows_length at [] = refl
rows_length at (p ∷ ps) = ap suc (rows_length (at + length (bytes p.unit)) ps)

pub units_length : (r : Reading) → length (placed_units r) ≡ length (units r)
units_length r = sym (ap length (sym (units_of_placed r)) ∙ length-map (placed_units r) unit_of)

-- ── units one after another ──

-- the bytes of units
abbrev pub bytes_of : List Placed → List ℕ
bytes_of ps = concat_map (λ (p : Placed). bytes p.unit) ps

pub concat_units : (ps : List Placed) → concat_map bytes (map unit_of ps) ≡ bytes_of ps
concat_units [] = refl
concat_units (p ∷ ps) = ap (λ (l : List ℕ). bytes p.unit ++ l) (concat_units ps)

pub bytes_append : (ps qs : List Placed) → bytes_of (ps ++ qs) ≡ bytes_of ps ++ bytes_of qs
bytes_append ps qs = concat_append (λ (p : Placed). bytes p.unit) ps qs

-- the row of a unit at an offset
abbrev pub row_for : ℕ → Placed → Row
row_for at p = record { code = p.unit.code; offset = at; length = row_length p }

-- a unit's offset is the number of bytes in the units before it
pub rows_append : (at : ℕ) (ps qs : List Placed) (n : ℕ) → n ≡ at + length (bytes_of ps) → rows_from at (ps ++ qs) ≡ rows_from at ps ++ rows_from n qs
rows_append at [] qs n e = let f : at ≡ n = omega arith in ap (λ (k : ℕ). rows_from k qs) f
rows_append at (p ∷ ps) qs n e =
    let l = length-append (bytes p.unit) (bytes_of ps) in
    ap (λ (rs : List Row). row_for at p ∷ rs) (rows_append (at + length (bytes p.unit)) ps qs n (omega arith))

-- a row with so much more in its offset
abbrev pub shifted : ℕ → Row → Row
shifted n row = record { code = row.code; offset = n + row.offset; length = row.length }

-- rows shift by what stands before
pub rows_shift : (n at : ℕ) (ps : List Placed) → rows_from (n + at) ps ≡ map (shifted n) (rows_from at ps)
rows_shift n at [] = refl
rows_shift n at (p ∷ ps) =
    ap (λ (rs : List Row). row_for (n + at) p ∷ rs)
    (ap (λ (k : ℕ). rows_from k ps) (add_assoc n at (length (bytes p.unit))) ∙ rows_shift n (at + length (bytes p.unit)) ps)
