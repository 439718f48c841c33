-- The steps so far lead to the present place, whose third byte is looked at; where the arms meet, one step more leads past it.
use Prim.Native.Nat.{ℕ, ◌+◌, ◌-◌, ◌≤◌, ◌<◌}
use mathlib.Core.Path.{refl, sym, ◌∙◌}
use mathlib.Core.List.{List}
use native.Mathlib.Omega.{arith}
use borrow.Author.Rules.{rules}
use lib.ListN.{length}
use Rattle.startcode.specs.Inside.{Leads}
use Rattle.startcode.proofs.StepLaws.{leads_none, leads_on, leads_one, leads_three, leads_over, ends_there, ends_last}
use Rattle.startcode.proofs.search.Goals as goal
use Rattle.startcode.proofs.search.Goals.{Joined-byte-eq1, then-byte-eq1+else-begins_at, else-byte-eq1+then-byte-eq0, else-byte-eq1+else-byte-eq0}

-- where the arms meet: the next third byte is after the present one and at most two after the stream's end, and one step more
-- leads to it
record Onward (s : List ℕ) (from present next steps : ℕ) : Type 0 where
  after : present < next
  near : next ≤ length s + 2
  leads : Leads s from (next - 2) (steps + 1)

met : (c : Joined-byte-eq1) → let a = c.args in
    Onward a.stream.now a.from c.loop-third.third (c.if-byte-eq1.third + c.if-byte-eq1.past) c.if-byte-eq1.steps
met c =
    let s = c.args.stream.now in
    let k = c.loop-third.third in
    let so_far = c.loop-third.invariant.2 in
    elim c.if-byte-eq1.branch [
      | then-byte-eq1+else-begins_at w ↦
          let one = leads_three s (k - 2) k (omega arith) (omega arith) (sym w.begins_at.ensures ∙ w.if-begins_at.false) (λ z. omega arith) in
          record { after = omega arith; near = omega arith; leads = leads_on so_far one (omega arith) (omega arith) }
      | else-byte-eq1+then-byte-eq0 w ↦
          let one = leads_one s (k - 2) k (omega arith) (omega arith) w.if-byte-eq0.true in
          record { after = omega arith; near = omega arith; leads = leads_on so_far one (omega arith) (omega arith) }
      | else-byte-eq1+else-byte-eq0 w ↦
          let run = w.steps_of_three-run.ensures in
          let one = leads_on so_far (leads_over s (k - 2) k (omega arith) (omega arith) (omega arith)) (omega arith) refl in
          let forth = run.leads.onward in
          let inside = run.inside in
          record { after = omega arith; near = omega arith; leads = leads_on one run.leads (omega arith) (omega arith) }
    ]

pub returns-then-saturating_sub-from : goal.returns-then-saturating_sub-from
returns-then-saturating_sub-from c = ends_last (leads_none _ _) (omega arith)

pub loop-third-init : goal.loop-third-init
loop-third-init c = (search rules, omega arith, leads_on (leads_none _ _) (leads_none _ _) (omega arith) refl)

pub returns-then-begins_at : goal.returns-then-begins_at
returns-then-begins_at c = ends_there c.loop-third.invariant.2 (omega arith) (sym c.begins_at.ensures ∙ c.if-begins_at.true)

pub overflow_add-third-in-loop-third : goal.overflow_add-third-in-loop-third
overflow_add-third-in-loop-third c = let m = met (goal.at.overflow_add-third-in-loop-third c).Joined-byte-eq1 in let i = m.near in search rules

pub overflow_add-steps-in-loop-third : goal.overflow_add-steps-in-loop-third
overflow_add-steps-in-loop-third c = let m = met (goal.at.overflow_add-steps-in-loop-third c).Joined-byte-eq1 in let i = m.near in let o = m.leads.onward in search rules

pub loop-third-smaller : goal.loop-third-smaller
loop-third-smaller c = let m = met (goal.at.loop-third-smaller c).Joined-byte-eq1 in let i = m.after in omega arith

pub loop-third-preserved : goal.loop-third-preserved
loop-third-preserved c = let m = met (goal.at.loop-third-preserved c).Joined-byte-eq1 in let i = m.after in (search rules, omega arith, m.leads)

pub returns : goal.returns
returns c = ends_last c.loop-third.invariant.2 (omega arith)
