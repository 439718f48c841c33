-- What is counted and what is left make the whole count.
use Rattle.std.proofs.Common.{Option, Result, Some}
use mathlib.Core.Path.{◌≡◌, refl, sym, ap, ◌∙◌, subst}
use native.Mathlib.Omega.{arith}
use lib.ListN.{length, length-set}
use Rattle.filing.proofs.PassLaws.{checking_start, checking_next, end_good, end_unended, counted, no_code, passed_refused}
use Rattle.units.proofs.UnitLaws.{Left, what_is_left}
use Rattle.grammar.specs.declared.Reason.{Reason}
use Rattle.units.specs.declared.NextUnit.{NextUnit}
use Rattle.filing.proofs.check_units.Goals as goal
use Rattle.filing.proofs.check_units.Goals.{After-unit_at}

pub returns-then-not-prefix_at : goal.returns-then-not-prefix_at
returns-then-not-prefix_at c = rw c.refused_at.ensures (passed_refused c.args.stream.now _ _ (no_code c.args.stream.now (sym c.prefix_at.ensures ∙ c.if-not-prefix_at.true)))

pub loop-at-init : goal.loop-at-init
loop-at-init c = let a = c.args in (checking_start a.stream.now a.spans.now (sym c.prefix_at.ensures ∙ c.if-not-prefix_at.false), refl)

-- what the unit that was read leaves
what : (u : After-unit_at) {y : Option (Result NextUnit Reason)} → u.unit_at.result ≡ y → Left u.args.stream.now u.loop-at.state u.loop-at.at y
what u e =
    let s = u.args.stream.now in
    subst (Left s u.loop-at.state u.loop-at.at) (sym u.unit_at.ensures ∙ e) (what_is_left s u.loop-at.state u.loop-at.at (u.loop-at.invariant.0.here u.loop-at-test.true))

pub returns-in-Some-Err : goal.returns-in-Some-Err
returns-in-Some-Err c =
    let l = what (goal.at.returns-in-Some-Err c).After-unit_at (c.in-Some-Err.is ∙ ap Some c.in-Some-Err.field-0-is) in
    rw c.refused_at-in-Some-Err.ensures (passed_refused c.args.stream.now _ _ (sym (c.loop-at.invariant.0.count ∙ ap (counted c.loop-at.units) l)))

pub returns-in-None : goal.returns-in-None
returns-in-None c = absurd (what (goal.at.returns-in-None c).After-unit_at c.in-None.is)

pub overflow_sub-end : goal.overflow_sub-end
overflow_sub-end c = omega (arith, (what (goal.at.overflow_sub-end c).After-unit_at (c.in-Some-Ok.is ∙ ap Some c.in-Some-Ok.field-0-is)).forward)

pub overflow_add-units : goal.overflow_add-units
overflow_add-units c = omega (arith, c.loop-at.invariant.0.few, c.loop-at.invariant.0.inside)

pub loop-at-smaller : goal.loop-at-smaller
loop-at-smaller c =
    let l = what (goal.at.loop-at-smaller c).After-unit_at (c.in-Some-Ok.is ∙ ap Some c.in-Some-Ok.field-0-is) in
    omega (arith, l.forward, l.within)

pub loop-at-preserved : goal.loop-at-preserved
loop-at-preserved c =
    let r = c.keep_span.ensures in (
      checking_next c.args.stream.now c.loop-at.spans c.loop-at.state c.loop-at.at c.loop-at.units _ _ _ _ c.loop-at.invariant.0 (what (goal.at.loop-at-preserved c).After-unit_at (c.in-Some-Ok.is ∙ ap Some c.in-Some-Ok.field-0-is)) r,
      ap length r ∙ length-set c.loop-at.spans c.loop-at.units _ ∙ c.loop-at.invariant.1,
    )

pub returns-then-is_final : goal.returns-then-is_final
returns-then-is_final c =
    record {
      answer = end_good c.args.stream.now c.loop-at.spans c.loop-at.state c.loop-at.at c.loop-at.units c.loop-at.invariant.0 c.loop-at-test.false (sym c.is_final.ensures ∙ c.if-is_final.true);
      kept = c.loop-at.invariant.0.kept;
    }

pub returns : goal.returns
returns c =
    rw c.refused_at-2.ensures (passed_refused c.args.stream.now _ _
    (end_unended c.args.stream.now c.loop-at.spans c.loop-at.state c.loop-at.at c.loop-at.units c.loop-at.invariant.0 c.loop-at-test.false (sym c.is_final.ensures ∙ c.if-is_final.false)))
