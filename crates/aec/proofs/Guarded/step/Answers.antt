-- A bin that was predicted, or was not.
use mathlib.Core.Path.{sym, ap, ◌∙◌}
use Rattle.answers.specs.Answers.{done}
use Rattle.aec.proofs.StepLaws.{bin_hit}
use Rattle.aec.proofs.Guarded.step.Goals as goal

pub returns : goal.returns
returns c = ap (λ next. done (c.args.g.p, next)) c.predicted.ensures ∙ bin_hit _ _ _ _ (sym c.misses.ensures ∙ c.if-misses.false)
