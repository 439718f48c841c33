-- A step by the contexts' prediction, and their update, once nothing is refused.
use Prim.Native.Nat.{ℕ}
use mathlib.Core.Path.{◌≡◌, sym, ap, ◌∙◌}
use mathlib.Core.Bool.{true}
use mathlib.Core.List.{List}
use borrow.Author.Rules.{rules}
use Rattle.answers.specs.Answers.{Outcome, done}
use Rattle.bits.specs.Bits.{payload}
use Rattle.aec.specs.Bins.{step_of}
use Rattle.aec.specs.Inside.{of_prediction, guarded_of}
use Rattle.aec.specs.declared.Limited.{Limited}
use Rattle.aec.specs.declared.State.{State}
use Rattle.aec.specs.declared.Stepped.{Stepped}
use Rattle.aec.proofs.StepLaws.{first_held, step_is}
use Rattle.aec.proofs.BinLaws.{guard_stops, Guards, guards, step_same, first_stops, step_stops, bin_done}
use Rattle.aec.proofs.bin_by.Given.{Over}
use Rattle.aec.proofs.bin_by.Goals as goal
use Rattle.aec.proofs.bin_by.Goals.{In_ok-at, in-Some, in-None+in_ok-done-in-None}

abbrev bits_of : Limited → List ℕ
bits_of l = payload l.bits.bytes.now l.bits.count

abbrev told : Stepped → Outcome (ℕ × State)
told r = done (r.bin, r.state)

module _ (g : Over) (c : In_ok-at g) where
  guarded : let a = c.args in let at = c.in_ok-at.at in
      Guards a.bits.bytes.now a.bits.count a.x (g.C.Contexts.good a.contexts) (payload at.limited.bits.bytes.now at.limited.bits.count) at.state
  guarded = let a = c.args in guards _ _ _ _ _ _ (c.in_ok-at.ensures ∙ ap (guarded_of a.bits.bytes.now a.bits.count a.x) c.are_good.ensures)

  good : g.C.Contexts.good c.args.contexts ≡ true
  good = (first_held _ _ _ _ (sym guarded.fine)).2

pub returns-in_err-at : goal.returns-in_err-at
returns-in_err-at g c =
    let a = c.args in
    let k = g.C.Contexts in
    let e = first_stops k.good k.predicts k.update a.bits.bytes.now a.bits.count a.x a.contexts
    (guard_stops _ _ _ _ (c.in_err-at.ensures ∙ ap (guarded_of a.bits.bytes.now a.bits.count a.x) c.are_good.ensures)) in
    search rules

pub prediction-g-requires : goal.prediction-g-requires
prediction-g-requires g c = good g c

pub returns-in_err-done-in-None : goal.returns-in_err-done-in-None
returns-in_err-done-in-None g c =
    let a = c.args in
    let k = g.C.Contexts in
    let w = guarded g (goal.at.returns-in_err-done-in-None g c).In_ok-at in
    let e = step_stops k.good k.predicts k.update a.bits.bytes.now a.bits.count a.x a.contexts w.fine
    (c.in_err-done-in-None.ensures ∙ step_same (ap bits_of c.copied.ensures.0 ∙ w.bits_same) (c.copied.ensures.1 ∙ w.state_same) c.prediction-g.ensures) in
    search rules

pub after-requires : goal.after-requires
after-requires g c = good g (goal.at.after-requires g c).In_ok-at

pub returns : goal.returns
returns g c =
    let a = c.args in
    let k = g.C.Contexts in
    let at = c.in_ok-at.at in
    let l = payload at.limited.bits.bytes.now at.limited.bits.count in
    let w = guarded g (goal.at.returns g c).In_ok-at in
    let r = c.match-step.done in
    let stepped : done (r.bin, r.state) ≡ step_of (payload a.bits.bytes.now a.bits.count) a.x (k.predicts a.contexts) = elim c.match-step.branch [
      | in-Some v ↦ ap told v.done-is ∙ v.in-Some.ensures ∙ step_is l at.state (of_prediction c.prediction-g.result) _ c.split.ensures
          ∙ step_same w.bits_same w.state_same c.prediction-g.ensures
      | in-None+in_ok-done-in-None v ↦ ap told v.done-is ∙ v.in_ok-done-in-None.ensures
          ∙ step_same (ap bits_of v.copied.ensures.0 ∙ w.bits_same) (v.copied.ensures.1 ∙ w.state_same) c.prediction-g.ensures
    ] in
    ap (λ d. done (r.bin, r.state, d)) c.after.ensures
    ∙ bin_done k.good k.predicts k.update a.bits.bytes.now a.bits.count a.x a.contexts w.fine r.bin r.state stepped
