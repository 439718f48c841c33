-- s, t and R, by whether rT reaches q.
use native.Mathlib.Omega.{arith}
use Rattle.aec.proofs.RangeLaws.{state_ranges}
use Rattle.aec.proofs.StepLaws.{split_fits, split_over}
use Rattle.aec.proofs.Guarded.split.Goals as goal

pub invariant_of-result : goal.invariant_of-result
invariant_of-result c =
    let r = state_ranges _ _ c.args.self.good in
    let low = c.args.g.lg_some in
    let high = c.args.g.lg_fits in
    record { t_fits = omega arith; range_some = omega arith; range_fits = omega arith }

pub returns-then-q-x : goal.returns-then-q-x
returns-then-q-x c = split_fits _ _ c.if-q-x.true

pub overflow_add-result : goal.overflow_add-result
overflow_add-result c = let r = state_ranges _ _ c.args.self.good in omega arith

pub returns : goal.returns
returns c = split_over _ _ c.if-q-x.false
