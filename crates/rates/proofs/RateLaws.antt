-- The laws of rates: w, the gain, and the next lg.
use Prim.Native.Nat.{ℕ, ◌+◌, ◌-◌, ◌/◌, ◌^◌, ◌≤◌}
use mathlib.Core.Path.{◌≡◌}
use native.Mathlib.Omega.{arith}
use lib.Dec.{leb, eqb}
use lib.Pow.{shr-shr, shr_le}
use Rattle.bits.specs.Lists.{All}
use Rattle.bits.proofs.TestLaws.{chosen}
use Rattle.rates.specs.Rates.{rate_of, gain_of, next_lg, w_of, rates}
use Rattle.rates.specs.declared.Rate.{Rate}
use Rattle.rates.specs.declared.Rate.TheVariants.{Three, Four, Five}

-- what holds of the list of rates holds of each
pub of_each : (P : Rate → Type 0) → All P rates → (r : Rate) → P r
of_each P h Three = h.0
of_each P h Four = h.1.0
of_each P h Five = h.1.1.0

pub rate_within : (cycno : ℕ) → (3 ≤ rate_of cycno) × (rate_of cycno ≤ 5)
unfolding rate_of
rate_within cycno =
    chosen (λ w. (3 ≤ w) × (w ≤ 5)) (leb cycno 1) 3 _ (λ t. omega arith) (λ t. chosen (λ w. (3 ≤ w) × (w ≤ 5)) (eqb cycno 2) 4 5 (λ u. omega arith) (λ u. omega arith))

pub width_within : (r : Rate) → (3 ≤ w_of r) × (w_of r ≤ 5)
width_within = of_each (λ r. (3 ≤ w_of r) × (w_of r ≤ 5)) ((omega arith, omega arith), ((omega arith, omega arith), ((omega arith, omega arith), tt)))

pub gain_within : (w : ℕ) → (1 ≤ gain_of w) × (gain_of w ≤ 197)
unfolding gain_of
gain_within w =
    chosen (λ g. (1 ≤ g) × (g ≤ 197)) (eqb w 3) 197 _ (λ t. omega arith) (λ t. chosen (λ g. (1 ≤ g) × (g ≤ 197)) (eqb w 4) 95 46 (λ u. omega arith) (λ u. omega arith))

-- a shift by j or more leaves no more than one by j
shift_most : (n j w : ℕ) → j ≤ w → n / 2 ^ w ≤ n / 2 ^ j
shift_most n j w h =
    let e : j + (w - j) ≡ w = omega arith in
    let s = shr-shr n j (w - j) in
    let l = shr_le (n / 2 ^ j) (w - j) in
    rw (← e) (omega (arith, s))

-- what lg loses at any rate
pub loss : (w lg : ℕ) → 3 ≤ w → (lg / 2 ^ w ≤ lg / 8) × (lg / 2 ^ (w + 2) ≤ lg / 32)
loss w lg h = (shift_most lg 3 w h, shift_most lg 5 (w + 2) (omega arith))

pub next_lg_within : (w lg : ℕ) → 3 ≤ w → 4 ≤ lg → (4 ≤ next_lg w lg) × (next_lg w lg ≤ lg)
next_lg_within w lg h k = let l = loss w lg h in (omega arith, omega arith)
