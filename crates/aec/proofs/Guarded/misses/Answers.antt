-- s at valueS, or apart from it.
use Rattle.aec.proofs.StepLaws.{misses_even, misses_apart}
use Rattle.aec.proofs.Guarded.misses.Goals as goal

pub returns-then-y-x : goal.returns-then-y-x
returns-then-y-x c = misses_even _ _ c.if-y-x.true

pub returns : goal.returns
returns c = misses_apart _ _ c.if-y-x.false
