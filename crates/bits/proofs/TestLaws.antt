-- The laws of tests: a case split that keeps its equation, what holds of a choice, and a rule proved by one computed test.
use Rattle.std.proofs.lemmas.Bool.{and_parts}
use Prim.Native.Nat.{ℕ, zero, suc, ◌<◌}
use mathlib.Core.Path.{◌≡◌, refl, sym, ap, ◌∙◌}
use mathlib.Core.Bool.{Bool, true, false, cond, ◌&&◌, beq, false≢true}
use native.Mathlib.Omega.{arith}
use borrow.Author.Tests.{eqb-true, eqb-false}
use lib.Dec.{eqb}

pub by_test {ℓ} : {P : Type ℓ} (t : Bool) → (t ≡ true → P) → (t ≡ false → P) → P
by_test true yes-case no-case = yes-case refl
by_test false yes-case no-case = no-case refl

-- what a test stands for does not hold, so the test fails
pub not_held : {P : Type 0} (t : Bool) → (t ≡ true → P) → (P → ⊥) → false ≡ t
not_held t holds h = by_test t (λ e. absurd (h (holds e))) sym

-- a choice of what holds of both
pub chosen : {A : Type 0} (P : A → Type 0) (t : Bool) (a b : A) → (t ≡ true → P a) → (t ≡ false → P b) → P (cond t a b)
chosen P true a b h k = h refl
chosen P false a b h k = k refl

-- a test does not come out both ways
pub contrary : {P : Type 0} (t : Bool) → t ≡ true → t ≡ false → P
contrary t e f = absurd (false≢true (sym f ∙ e))

pub beq_true : (a b : Bool) → beq a b ≡ true → a ≡ b
beq_true true true e = refl
beq_true true false e = sym e
beq_true false true e = e
beq_true false false e = refl

-- a test that is computed at each number below n
abbrev pub all_below : ℕ → (ℕ → Bool) → Bool
all_below zero p = true
all_below (suc n) p = p n && all_below n p

pub at_each : (n : ℕ) (p : ℕ → Bool) → all_below n p ≡ true → (k : ℕ) → k < n → p k ≡ true
at_each zero p t k h = absurd (omega arith)
at_each (suc n) p t k h =
    let (here, rest) = and_parts (p n) (all_below n p) t in
    let r = at_each n p rest k in
    by_test (eqb k n)
    (λ e. ap p (eqb-true k n e) ∙ here)
    (λ f. let d = eqb-false k n f in r (omega arith))
