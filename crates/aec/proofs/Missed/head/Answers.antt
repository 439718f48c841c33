-- By whether s is at valueS, or past it.
use native.Mathlib.Omega.{arith}
use borrow.Author.Tests.{eq-eqb, ne_eqb}
use Rattle.aec.proofs.RangeLaws.{state_ranges}
use Rattle.aec.proofs.StepLaws.{missed}
use Rattle.aec.proofs.Missed.head.Goals as goal

pub overflow_sub-result : goal.overflow_sub-result
overflow_sub-result c = let a = c.args.self in missed a.at.state _ a.misses c.if-y-x.true

pub overflow_cast-result : goal.overflow_cast-result
overflow_cast-result c = let r = state_ranges _ _ c.args.self.at.good in omega arith

pub overflow_mul-result : goal.overflow_mul-result
overflow_mul-result c = let r = state_ranges _ _ c.args.self.at.good in omega arith

pub overflow_add-result : goal.overflow_add-result
overflow_add-result c = let r = state_ranges _ _ c.args.self.at.good in omega arith

pub overflow_cast-result-2 : goal.overflow_cast-result-2
overflow_cast-result-2 c = let r = state_ranges _ _ c.args.self.at.good in omega arith

pub returns-then-y-x : goal.returns-then-y-x
returns-then-y-x c = simp (eq-eqb _ _ c.if-y-x.true)

pub returns : goal.returns
returns c = simp (ne_eqb _ _ c.if-y-x.false)
