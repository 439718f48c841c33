-- TOO LONG, then BAD STATE, in the definition's order.
use mathlib.Core.Path.{◌≡◌, sym, ap, ◌∙◌}
use mathlib.Core.Bool.{Bool, ◌&&◌, and-false}
use lib.ListN.{length}
use Rattle.bits.specs.Bits.{payload}
use Rattle.aec.specs.Bins.{good_state}
use Rattle.answers.proofs.OutcomeLaws.{stops, goes}
use Rattle.aec.proofs.StepLaws.{first_long, first_bad, first_fine}
use Rattle.aec.proofs.guard.Goals as goal
use Rattle.aec.proofs.guard.Goals.{After-good_state}

pub returns-then-bits-gt-LIMIT : goal.returns-then-bits-gt-LIMIT
returns-then-bits-gt-LIMIT c = let a = c.args in stops _ (first_long a.bits.bytes.now a.bits.count a.state a.contexts c.if-bits-gt-LIMIT.true)

-- the state's test, at the number of the payload's bits
abbrev tested : (c : After-good_state) → Bool
tested c = let a = c.args in good_state (length (payload a.bits.bytes.now a.bits.count)) a.state

state : (c : After-good_state) → tested c ≡ c.good_state.result
state c =
    let a = c.args in
    sym (c.good_state.ensures ∙ ap (λ n. good_state n a.state) c.bit_length.ensures)

pub returns-then-not-good_state : goal.returns-then-not-good_state
returns-then-not-good_state c =
    let a = c.args in
    stops _ (first_bad a.bits.bytes.now a.bits.count a.state a.contexts c.if-bits-gt-LIMIT.false (ap (λ t. t && a.contexts) (state (goal.at.returns-then-not-good_state c).After-good_state ∙ c.if-not-good_state.true)))

pub returns-then-not-contexts : goal.returns-then-not-contexts
returns-then-not-contexts c =
    let r = (goal.at.returns-then-not-contexts c).After-good_state in
    let a = c.args in
    stops _ (first_bad a.bits.bytes.now a.bits.count a.state a.contexts c.if-bits-gt-LIMIT.false (ap (λ t. tested r && t) c.if-not-contexts.true ∙ and-false (tested r)))

pub returns : goal.returns
returns c =
    let a = c.args in
    goes _ (first_fine a.bits.bytes.now a.bits.count a.state a.contexts c.if-bits-gt-LIMIT.false
    (ap (λ t. t && a.contexts) (state (goal.at.returns c).After-good_state ∙ c.if-not-good_state.false) ∙ c.if-not-contexts.false))
