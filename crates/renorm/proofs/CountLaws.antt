-- The laws of leading zeros: how often a range is doubled, and how many bits a value takes.
use Prim.Native.Nat.{ℕ, suc, ◌+◌, ◌-◌, ◌*◌, ◌/◌, ◌^◌, ◌≤◌, ◌<◌}
use mathlib.Core.Path.{◌≡◌, sym, ap, ◌∙◌}
use native.Mathlib.Omega.{arith}
use native.Mathlib.Nat.{le-div_iff_mul-le, div-lt_iff_lt-mul, mul-le-mul_right}
use borrow.Author.Tests.{leb-true, leb-false}
use lib.Count.{count_leading_zeros, leading_top, leading_of_zero}
use lib.Dec.{leb}
use lib.Pow.{pow_mono, pow_pos, pow-add, shl_lt}
use Rattle.bits.proofs.TestLaws.{by_test}
use Rattle.renorm.specs.Reader.{doublings_of, needed_of}

-- k is how often a range is doubled: it is below 256 until then
pub record Doubles (range k : ℕ) : Type 0 where
  pub below : (i : ℕ) → i < k → range * 2 ^ i < 256
  pub reached : 256 ≤ range * 2 ^ k
  pub few : k ≤ 8

-- n is how many of its last `left` bits a value takes: without the others it is below 256 until then
pub record Needs (value left n : ℕ) : Type 0 where
  pub below : (i : ℕ) → i < n → value / 2 ^ (left - i) < 256
  pub reached : n ≤ left → 256 ≤ value / 2 ^ (left - n)

pow_below : (j n : ℕ) → 2 ^ j < 2 ^ n → j < n
pow_below j n h = by_test (leb n j) (λ t. let p = pow_mono {i = n} {j = j} (leb-true n j t) in absurd (omega arith)) (leb-false n j)

pub doubles : (range : ℕ) → 1 ≤ range → range < 512 → Doubles range (doublings_of range)
doubles range h i =
    let (j, sum, lo, hi) = leading_top 32 range h (omega arith) in
    let k = count_leading_zeros 32 range - 23 in
    let small = pow_below j 9 (omega arith) in
    let s : j + k ≡ 8 = omega arith in
    let lower : 2 ^ j * 2 ^ k ≡ 256 = sym (pow-add 2 j k) ∙ ap (λ (n : ℕ). 2 ^ n) s in
    let t : suc j + k ≡ 9 = omega arith in
    let upper : 2 ^ (suc j + k) ≡ 512 = ap (λ (n : ℕ). 2 ^ n) t in
    let under = shl_lt {a = range} (suc j) k hi in
    let over = mul-le-mul_right (2 ^ k) lo in
    record {
      below = λ i l.
          let u = shl_lt {a = range} (suc j) i hi in
          let p = pow_mono {i = suc j + i} {j = 8} (omega arith) in
          omega arith;
      reached = omega arith;
      few = omega arith;
    }

pub needs_bits : (v m : ℕ) → v < 2 ^ 64 → Needs v m (needed_of v m)
needs_bits v m h = by_test (leb 1 v) (λ t. some (leb-true 1 v t)) (λ f. let z = leb-false 1 v f in none (omega arith))
  where
    some : 1 ≤ v → Needs v m (needed_of v m)
    some g =
        let (j, sum, lo, hi) = leading_top 64 v g h in
        let n = count_leading_zeros 64 v + m - 55 in
        record {
          below = λ i l.
              let p = pow_mono {i = suc j} {j = 8 + (m - i)} (omega arith) in
              let q = pow-add 2 8 (m - i) in
              (div-lt_iff_lt-mul {k = 2 ^ (m - i)} {x = v} {y = 256} (pow_pos (m - i))).1 (omega arith);
          reached = λ l.
              let p = pow_mono {i = 8 + (m - n)} {j = j} (omega arith) in
              let q = pow-add 2 8 (m - n) in
              (le-div_iff_mul-le {k = 2 ^ (m - n)} {x = 256} {y = v} (pow_pos (m - n))).1 (omega arith);
        }

    none : v ≡ 0 → Needs v m (needed_of v m)
    none e =
        let z : count_leading_zeros 64 v ≡ 64 = ap (count_leading_zeros 64) e ∙ leading_of_zero 64 in
        record {
          below = λ i l. (div-lt_iff_lt-mul {k = 2 ^ (m - i)} {x = v} {y = 256} (pow_pos (m - i))).1 (omega (arith, pow_pos (m - i)));
          reached = λ l. absurd (omega arith);
        }
