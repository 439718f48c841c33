-- A step with p 0, once nothing is refused.
use mathlib.Core.Path.{refl, ◌∙◌}
use mathlib.Core.Bool.{true}
use Rattle.answers.proofs.OutcomeLaws.{goes}
use Rattle.bits.specs.Bits.{payload}
use Rattle.aec.specs.Bins.{Guess}
use Rattle.aec.proofs.StepLaws.{step_is}
use Rattle.aec.proofs.BinLaws.{Guards, guards, step_same}
use Rattle.aec.proofs.plain.Goals as goal

pub returns-in-Some : goal.returns-in-Some
returns-in-Some c =
    let a = c.args in
    let at = c.in_ok-at.at in
    let l = payload at.limited.bits.bytes.now at.limited.bits.count in
    let w : Guards a.bits.bytes.now a.bits.count a.x true l at.state = guards _ _ _ _ _ _ c.in_ok-at.ensures in
    let g : Guess = record { p = 0; lg = a.lg } in
    c.in-Some.ensures ∙ step_is l at.state g _ c.split.ensures ∙ step_same {g = g} w.bits_same w.state_same refl ∙ goes _ w.fine
