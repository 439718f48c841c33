-- What lg loses is less than lg, at any rate.
use Prim.Native.Nat.{ℕ, ◌+◌, ◌/◌, ◌^◌, ◌≤◌}
use mathlib.Core.Path.{ap}
use native.Mathlib.Omega.{arith}
use Rattle.rates.specs.Rates.{next_lg}
use Rattle.rates.proofs.RateLaws.{width_within, loss}
use Rattle.rates.proofs.Rate.next_lg.Goals as goal
use Rattle.rates.proofs.Rate.next_lg.Goals.{After-width-w}

-- w, and what lg loses by it
module _ (c : After-width-w) where
  abbrev w : ℕ
  w = c.width-w.result

  abbrev lg : ℕ
  lg = c.args.lg

  within : (3 ≤ w) × (w ≤ 5)
  within = let h = width_within c.args.self in let e = c.width-w.ensures in (omega arith, omega arith)

  lost : (lg / 2 ^ w ≤ lg / 8) × (lg / 2 ^ (w + 2) ≤ lg / 32)
  lost = loss w lg within.0

pub overflow_shr-result : goal.overflow_shr-result
overflow_shr-result c = let h = within c in omega arith

pub overflow_sub-result : goal.overflow_sub-result
overflow_sub-result c = let h = lost c in omega arith

pub overflow_add-result : goal.overflow_add-result
overflow_add-result c = let h = within c in omega arith

pub overflow_shr-result-2 : goal.overflow_shr-result-2
overflow_shr-result-2 c = let h = within c in omega arith

pub overflow_sub-result-2 : goal.overflow_sub-result-2
overflow_sub-result-2 c = let h = lost c in omega arith

pub returns : goal.returns
returns c = ap (λ w. next_lg w (lg c)) c.width-w.ensures
