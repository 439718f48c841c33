-- A shift and a mask are a division and a remainder.
use Prim.Native.Nat.{ℕ, ◌-◌, ◌*◌, ◌/◌, ◌%◌, ◌^◌, ◌≤◌}
use mathlib.Core.Path.{◌≡◌}
use native.Mathlib.Omega.{arith}
use native.Mathlib.Nat.{mod-lt}
use lib.Bits.{bit_and, and_mask}
use lib.Pow.{pow_pos, pow_mono}
use Rattle.bits.proofs.cut.Goals as goal

-- the power is not shifted out
power : (width : ℕ) → width ≤ 32 → 1 * 2 ^ width % 18446744073709551616 ≡ 2 ^ width
power width h = omega (arith, pow_mono {i = width} {j = 32} h)

masked : (x width : ℕ) → width ≤ 32 → bit_and x (1 * 2 ^ width % 18446744073709551616 - 1) ≡ x % 2 ^ width
masked x width h = rw (power width h) (and_mask x width)

pub overflow_sub-ones : goal.overflow_sub-ones
overflow_sub-ones c = let w = c.args.width in omega (arith, pow_pos w, pow_mono {i = w} {j = 32} (omega arith))

pub overflow_cast-result : goal.overflow_cast-result
overflow_cast-result c =
    let w = c.args.width in
    let x = c.args.value / 2 ^ c.args.after in
    omega (arith, masked x w (omega arith), mod-lt x {m = 2 ^ w} (pow_pos w), pow_mono {i = w} {j = 32} (omega arith))

pub returns : goal.returns
returns c = masked _ c.args.width (omega arith)
