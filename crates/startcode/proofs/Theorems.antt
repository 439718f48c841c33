-- When the search ends, and which bytes have no kind.
use Prim.Native.Nat.{ℕ, ◌+◌, ◌-◌, ◌≤◌, ◌<◌}
use mathlib.Core.Path.{◌≡◌, refl, sym, ap, subst, ◌∙◌}
use mathlib.Core.Logic.{◌↔◌, ◌⊎◌, inl, inr}
use mathlib.Core.List.{List, [], ◌∷◌}
use mathlib.Core.Bool.{Bool, true, false, ◌&&◌, ◌||◌, beq, false≢true, or-true}
use native.Mathlib.Omega.{arith}
use lib.Dec.{leb, eqb}
use lib.ListN.{length, drop, length-drop}
use lib.Seq.{drop-drop}
use borrow.Author.Tests.{eq-eqb, eqb-true, le-leb, leb-true, leb-false}
use Rattle.answers.specs.Answers.{Carried, Outcome, done, refused, OneToOne, UNKNOWN}
use Rattle.answers.proofs.OutcomeLaws.{not_refused, undone}
use Rattle.bits.proofs.TestLaws.{at_each, beq_true, by_test, chosen, contrary}
use Rattle.startcode.specs.Prefix.{begins, before, next_prefix, First}
use Rattle.startcode.specs.Kinds.{Codes, kinds, kind_in, kind_of, kind_says}
use Rattle.startcode.specs.declared.Kind.{Kind}
use Rattle.std.proofs.Common.{Option, Some, None}
use Rattle.startcode.proofs.PrefixLaws.{search_start, before_le, before_found, before_none}

module _ (stream : List ℕ) (from : ℕ) where
  -- a place that is k after `from`
  moved : (place k : ℕ) → place ≡ from + k → begins (drop place stream) ≡ begins (drop k (drop from stream))
  moved place k e = ap (λ (n : ℕ). begins (drop n stream)) e ∙ ap begins (sym (drop-drop k from stream))

  pub search_first : First stream from (next_prefix stream from)
  search_first =
      let e = search_start stream from in
      let l = before_le (drop from stream) in
      let d = length-drop from stream in
      record {
        within = omega arith;
        after = λ h. omega arith;
        at_end = λ h. omega arith;
        stands = λ h. moved (next_prefix stream from) (before (drop from stream)) (omega arith) ∙ before_found (drop from stream) (omega arith);
        none_before = λ k h i. moved k (k - from) (omega arith) ∙ before_none (drop from stream) (k - from) (omega arith);
      }

-- 00 00 01 would stand at the place before and not stand there
not_before : {stream : List ℕ} {from a b : ℕ} → First stream from a → First stream from b → a < b → ⊥
not_before {stream} {from} {a} p q h =
    let w = q.within in
    by_test (leb from (length stream))
    (λ t.
    let k = p.after (leb-true from (length stream) t) in
    contrary (begins (drop a stream)) (p.stands (omega arith)) (q.none_before a (omega arith) h))
    (λ f.
    let past = leb-false from (length stream) f in
    let i = p.at_end (omega arith) in
    let j = q.at_end (omega arith) in
    omega arith)

pub first_once : {stream : List ℕ} {from a b : ℕ} → First stream from a → First stream from b → a ≡ b
first_once p q = omega (arith, not_before p q, not_before q p)

unit_kind_of : Outcome Kind → Option Kind
unit_kind_of (done k) = Some k
unit_kind_of (refused number carried) = None

kind_undone : (a : Option Kind) → unit_kind_of (kind_says a) ≡ a
unfolding unit_kind_of
kind_undone (Some k) = refl
kind_undone None = refl

pub kind_one_to_one : OneToOne kind_says
kind_one_to_one = undone kind_says unit_kind_of kind_undone

abbrev pub is_unknown : Outcome Kind → Bool
is_unknown (done k) = false
is_unknown (refused n carried) = true

unknown_test : (byte : ℕ) → byte < 256 → beq (is_unknown (kind_of byte)) (eqb byte 0xB4 || leb 0xB8 byte) ≡ true
unfolding kind_of
unknown_test = at_each 256 (λ byte. beq (is_unknown (kind_of byte)) (eqb byte 0xB4 || leb 0xB8 byte)) refl

pub unknown_bytes : (byte : ℕ) → byte < 256 → is_unknown (kind_of byte) ≡ (eqb byte 0xB4 || leb 0xB8 byte)
unknown_bytes byte h = beq_true _ _ (unknown_test byte h)

-- ── the bytes that no kind has ──

-- which of the two answers it is
data Answers : Outcome Kind → Bool → Type 0 where
  known : {k : Kind} → Answers (done k) false
  unknown : Answers (refused UNKNOWN []) true

answers : (cs : List Codes) (byte : ℕ) → Answers (kind_in cs byte) (is_unknown (kind_in cs byte))
answers [] byte = unknown
answers (c ∷ cs) byte = chosen (λ o. Answers o (is_unknown o)) (leb c.first byte && leb byte c.last) _ _ (λ t. known) (λ f. answers cs byte)

is_listed : (byte : ℕ) → (eqb byte 0xB4 || leb 0xB8 byte ≡ true) ↔ ((byte ≡ 0xB4) ⊎ (0xB8 ≤ byte))
is_listed byte = (to, from)
  where
    to : eqb byte 0xB4 || leb 0xB8 byte ≡ true → (byte ≡ 0xB4) ⊎ (0xB8 ≤ byte)
    to e = by_test (eqb byte 0xB4) (λ t. inl (eqb-true byte 0xB4 t)) (λ f. inr (leb-true 0xB8 byte (rw f at e)))

    from : (byte ≡ 0xB4) ⊎ (0xB8 ≤ byte) → eqb byte 0xB4 || leb 0xB8 byte ≡ true
    from (inl e) = rw (eq-eqb byte 0xB4 e)
    from (inr h) = simp (le-leb 0xB8 byte h, or-true)

refused_where : {o : Outcome Kind} {t : Bool} {P : Type 0} {number : ℕ} {carried : List Carried} → Answers o t → (t ≡ true) ↔ P
    → (o ≡ refused number carried) ↔ ((number ≡ UNKNOWN) × (carried ≡ []) × P)
refused_where known p = (λ e. not_refused e, λ q. absurd (false≢true (p.1 q.2)))
refused_where unknown p = (λ e. (cc, cc, p.0 refl), λ q. rw (q.0, q.1))

pub unknown_iff : (byte number : ℕ) (carried : List Carried) → byte < 256
    → (kind_of byte ≡ refused number carried) ↔ ((number ≡ UNKNOWN) × (carried ≡ []) × ((byte ≡ 0xB4) ⊎ (0xB8 ≤ byte)))
unfolding kind_of
unknown_iff byte number carried h = refused_where (subst (Answers (kind_of byte)) (unknown_bytes byte h) (answers kinds byte)) (is_listed byte)
