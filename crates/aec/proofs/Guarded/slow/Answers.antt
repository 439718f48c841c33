-- A bin of the range that it splits, predicted or not.
use mathlib.Core.Path.{◌≡◌, sym, ap, ◌∙◌}
use borrow.Author.Rules.{rules}
use Rattle.answers.specs.Answers.{done}
use Rattle.bits.specs.Bits.{payload}
use Rattle.aec.specs.Bins.{bin_of, step_of}
use Rattle.aec.specs.Inside.{of_split, of_prediction}
use Rattle.aec.proofs.StepLaws.{bin_hit, bin_miss, bin_stops, step_is}
use Rattle.aec.proofs.Guarded.slow.Goals as goal
use Rattle.aec.proofs.Guarded.slow.Goals.{After-misses}

-- the range that is split is the definition's
by_split : (c : After-misses) →
    let a = c.args in
    let bits = payload a.self.limited.bits.bytes.now a.self.limited.bits.count in
    bin_of bits a.self.state a.g.p (of_split c.split-y.result) ≡ step_of bits a.self.state (of_prediction a.g)
by_split c =
    let a = c.args in
    step_is (payload a.self.limited.bits.bytes.now a.self.limited.bits.count) a.self.state (of_prediction a.g) _ c.split-y.ensures

pub returns-then-misses : goal.returns-then-misses
returns-then-misses c =
    bin_miss _ _ _ _ _ (sym c.misses.ensures ∙ c.if-misses.true) c.in_ok-state.ensures ∙ by_split (goal.at.returns-then-misses c).After-misses

pub returns-in_err-state : goal.returns-in_err-state
returns-in_err-state c =
    let a = c.args in
    let e = bin_stops (payload a.self.limited.bits.bytes.now a.self.limited.bits.count) a.self.state a.g.p (of_split c.split-y.result) _ (sym c.misses.ensures ∙ c.if-misses.true) c.in_err-state.ensures
    ∙ by_split (goal.at.returns-in_err-state c).After-misses in
    search rules

pub returns : goal.returns
returns c =
    let a = c.args in
    ap (λ next. done (a.g.p, next)) c.predicted.ensures
    ∙ bin_hit (payload a.self.limited.bits.bytes.now a.self.limited.bits.count) a.self.state a.g.p (of_split c.split-y.result) (sym c.misses.ensures ∙ c.if-misses.false)
    ∙ by_split (goal.at.returns c).After-misses
