-- Half of a number below 2^32 - 1 is below 2^31, so neither sign overflows.
use Prim.Native.Nat.{ℕ, zero, suc, ◌+◌, ◌/◌, ◌%◌, ◌<◌}
use mathlib.Core.Path.{◌≡◌, ap, ◌∙◌}
use native.Mathlib.Omega.{arith}
use borrow.Author.Tests.{eq-eqb, ne_eqb}
use lib.IntN.{ℤ, pos, neg_ℤ, ◌-ℤ◌, +ℤ_idl}
use mir.Facts.{to_z_pos, to_z-of_z}
use mir.Syntax.{w32}
use mir.Val.{to_z, SFits}
use Rattle.payload.specs.Golomb.{stands_for}
use Rattle.payload.proofs.stands_for.Goals as goal
use Rattle.payload.proofs.stands_for.Goals.{Else-n-eq1}

minus : (m : ℕ) → m < 2147483648 → pos 0 -ℤ to_z w32 m ≡ neg_ℤ (pos m)
minus m h = ap (λ (z : ℤ). pos 0 -ℤ z) (to_z_pos w32 {n = m} h) ∙ +ℤ_idl (neg_ℤ (pos m))

minus_fits : (m : ℕ) → m < 2147483648 → SFits w32 (neg_ℤ (pos m))
minus_fits zero h = record { sfits = omega arith }
minus_fits (suc m) h = record { sfits = omega arith }

half_small : (c : Else-n-eq1) → c.args.n / 2 < 2147483648
half_small c = omega (arith, c.requires)

pub overflow_sub-result : goal.overflow_sub-result
overflow_sub-result c = let h = half_small c in rw (minus (c.args.n / 2) h) (minus_fits _ h)

pub returns-then-n-eq1 : goal.returns-then-n-eq1
unfolding stands_for
returns-then-n-eq1 c =
    to_z_pos w32 {n = (c.args.n + 1) / 2} (omega arith) ∙ simp (eq-eqb (c.args.n % 2) 1 c.if-n-eq1.true)

pub returns-else-n-eq1 : goal.returns-else-n-eq1
unfolding stands_for
returns-else-n-eq1 c =
    let m = c.args.n / 2 in
    let h = half_small c in
    let e = minus m h in
    rw e (to_z-of_z (minus_fits m h) ∙ simp (ne_eqb _ _ c.if-n-eq1.false))
