-- Kinds of unit are told apart, and a sequence header is told by its code byte.
use Prim.Native.Nat.{ℕ}
use mathlib.Core.Path.{◌≡◌, refl, sym, ◌∙◌, ap}
use mathlib.Core.Logic.{◌⊎◌, inl, inr, ◌↔◌}
use mathlib.Core.List.{List, [], ◌∷◌}
use mathlib.Core.Bool.{Bool, true, false, cond, ◌&&◌}
use native.Mathlib.Omega.{arith}
use borrow.Author.Tests.{eqb-true, eq-eqb, leb-true}
use lib.Dec.{leb, eqb}
use Rattle.answers.specs.Answers.{Outcome, done, refused, UNKNOWN}
use Rattle.answers.proofs.OutcomeLaws.{undone, done_one, not_done}
use Rattle.std.proofs.lemmas.Bool.{and_parts}
use Rattle.bits.proofs.TestLaws.{by_test}
use Rattle.startcode.specs.Kinds.{Codes, kind_in, kinds, kind_of}
use Rattle.startcode.specs.declared.Kind.{Kind}
use Rattle.startcode.specs.declared.Kind.TheVariants as kind
use Rattle.grammar.specs.Reader.{kind_index, same_kind}

kind_at : ℕ → Kind
kind_at n =
    cond (eqb n 0) kind.Slice
    (cond (eqb n 1) kind.SequenceHeader
    (cond (eqb n 2) kind.SequenceEnd
    (cond (eqb n 3) kind.UserData
    (cond (eqb n 4) kind.IPicture
    (cond (eqb n 5) kind.Extension
    (cond (eqb n 6) kind.PBPicture kind.EditCode))))))

index_undone : (k : Kind) → kind_at (kind_index k) ≡ k
unfolding kind_at
index_undone kind.Slice = refl
index_undone kind.SequenceHeader = refl
index_undone kind.SequenceEnd = refl
index_undone kind.UserData = refl
index_undone kind.IPicture = refl
index_undone kind.Extension = refl
index_undone kind.PBPicture = refl
index_undone kind.EditCode = refl

pub same_true : (j k : Kind) → same_kind j k ≡ true → j ≡ k
same_true j k t = undone kind_index kind_at index_undone j k (eqb-true (kind_index j) (kind_index k) t)

pub true_same : (j k : Kind) → j ≡ k → same_kind j k ≡ true
true_same j k e = eq-eqb (kind_index j) (kind_index k) (ap kind_index e)

pub other_kind : (k j : Kind) → ¬ (k ≡ j) → same_kind k j ≡ false
other_kind k j n = by_test (same_kind k j) (λ t. absurd (n (same_true k j t))) (λ f. f)

-- no unit has two kinds
pub apart : {P : Type 0} {o : Outcome Kind} (j k : Kind) → same_kind j k ≡ false → o ≡ done j → o ≡ done k → P
apart j k d e f = let s = true_same j k (done_one (sym e ∙ f)) in let z : ◌≡◌ {A = ℕ} 0 1 = cc in absurd (omega arith)

-- every code has a kind, or is UNKNOWN
kind_in_lem : (cs : List Codes) (c : ℕ) → ((k : Kind) × (kind_in cs c ≡ done k)) ⊎ (kind_in cs c ≡ refused UNKNOWN [])
kind_in_lem [] c = inr refl
kind_in_lem (x ∷ cs) c = by_test (leb x.first c && leb c x.last) (λ t. inl (x.kind, rw t)) (λ f. rw f (kind_in_lem cs c))

pub kind_or_not : (c : ℕ) → ((k : Kind) × (kind_of c ≡ done k)) ⊎ (kind_of c ≡ refused UNKNOWN [])
unfolding kind_of
kind_or_not c = kind_in_lem kinds c

-- ── a kind with one code byte ──

-- each line of this kind has this byte alone
abbrev only : Kind → ℕ → List Codes → Bool
only k byte [] = true
only k byte (c ∷ cs) = cond (same_kind c.kind k) (eqb c.first byte && eqb c.last byte) true && only k byte cs

only_code : (cs : List Codes) (k : Kind) (byte c : ℕ) → only k byte cs ≡ true → kind_in cs c ≡ done k → c ≡ byte
only_code [] k byte c t e = not_done e
only_code (x ∷ cs) k byte c t e =
    let p = and_parts (cond (same_kind x.kind k) (eqb x.first byte && eqb x.last byte) true) (only k byte cs) t in
    by_test (leb x.first c && leb c x.last)
    (λ i.
    let q = and_parts (leb x.first c) (leb c x.last) i in
    let s = true_same x.kind k (done_one (rw i at e)) in
    let f = and_parts (eqb x.first byte) (eqb x.last byte) (rw s at p.0) in
    let l = leb-true x.first c q.0 in let m = leb-true c x.last q.1 in
    let a = eqb-true x.first byte f.0 in let b = eqb-true x.last byte f.1 in
    omega arith)
    (λ i. only_code cs k byte c p.1 (rw i at e))

-- a sequence header's code byte is B0, and no other unit's is
pub header_code : (c : ℕ) → (kind_of c ≡ done kind.SequenceHeader) ↔ (c ≡ 0xB0)
unfolding kind_of
header_code c = (only_code kinds kind.SequenceHeader 0xB0 c refl, λ e. rw e)
