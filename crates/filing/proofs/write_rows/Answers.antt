-- The rows that are written and those that are left make the whole.
use Prim.Native.Nat.{ℕ, ◌+◌, ◌*◌, ◌≤◌}
use mathlib.Core.Path.{◌≡◌, sym, ◌∙◌, subst}
use native.Mathlib.Omega.{arith}
use lib.ListN.{length}
use Rattle.startcode.specs.Prefix.{next_prefix}
use Rattle.grammar.specs.Rows.{placed, row_length}
use Rattle.grammar.proofs.WalkLaws.{unit_between}
use Rattle.units.proofs.UnitLaws.{Advanced}
use Rattle.filing.proofs.PassLaws.{UnitHere, unit_here, writing_start, writing_room, writing_kept, writing_next, writing_end}
use Rattle.filing.proofs.write_rows.Goals as goal
use Rattle.filing.proofs.write_rows.Goals.{In-loop-i}

-- the unit that stands here
unit : (c : In-loop-i) → UnitHere c.args.stream.now c.loop-i.scope c.loop-i.invariant.state c.loop-i.at
unit c = unit_here c.args.stream.now c.args.spans.now c.args.units c.args.rows.now c.loop-i.rows c.loop-i.scope c.loop-i.at c.loop-i.i c.loop-i.invariant c.loop-i-test.true

-- up to the end that was found
found : (c : In-loop-i) {end : ℕ} → end ≡ next_prefix c.args.stream.now (c.loop-i.at + 3) →
    Advanced c.args.stream.now c.loop-i.invariant.state c.loop-i.at (unit c).next end (row_length (placed c.loop-i.scope (unit_between c.args.stream.now c.loop-i.at end)))
found c e =
    subst (λ (end : ℕ). Advanced c.args.stream.now c.loop-i.invariant.state c.loop-i.at (unit c).next end (row_length (placed c.loop-i.scope (unit_between c.args.stream.now c.loop-i.at end))))
    (sym e) (unit c).advanced

-- with the length of its row
advanced : (c : In-loop-i) {end n : ℕ} → end ≡ next_prefix c.args.stream.now (c.loop-i.at + 3)
    → n ≡ row_length (placed c.loop-i.scope (unit_between c.args.stream.now c.loop-i.at end))
    → Advanced c.args.stream.now c.loop-i.invariant.state c.loop-i.at (unit c).next end n
advanced c {end} e f = subst (Advanced c.args.stream.now c.loop-i.invariant.state c.loop-i.at (unit c).next end) (sym f) (found c e)

room : (c : In-loop-i) {end n : ℕ} → end ≡ next_prefix c.args.stream.now (c.loop-i.at + 3)
    → n ≡ row_length (placed c.loop-i.scope (unit_between c.args.stream.now c.loop-i.at end)) → c.loop-i.i * 3 + 3 ≤ length c.loop-i.rows
room c e f = writing_room c.args.stream.now c.args.spans.now c.args.units c.args.rows.now c.loop-i.rows c.loop-i.scope c.loop-i.at c.loop-i.i _ _ _ c.loop-i.invariant (advanced c e f)

pub loop-i-init : goal.loop-i-init
loop-i-init c = writing_start _ _ _ _ c.requires

pub overflow_add-code : goal.overflow_add-code
overflow_add-code c = omega (arith, (unit c).advanced.forward, (unit c).advanced.within)

pub bounds-stream-at : goal.bounds-stream-at
bounds-stream-at c = omega (arith, (unit (goal.at.bounds-stream-at c).In-loop-i).advanced.forward, (unit (goal.at.bounds-stream-at c).In-loop-i).advanced.within)

pub end_of-end-requires : goal.end_of-end-requires
end_of-end-requires c =
    let a = (unit (goal.at.end_of-end-requires c).In-loop-i).advanced in
    (omega (arith, a.forward, a.within, c.loop-i.invariant.short), writing_kept c.args.stream.now c.args.spans.now c.args.units c.args.rows.now c.loop-i.rows c.loop-i.scope c.loop-i.at c.loop-i.i _ _ _ c.loop-i.invariant a)

pub overflow_add-from : goal.overflow_add-from
overflow_add-from c = omega (arith, (found (goal.at.overflow_add-from c).In-loop-i c.end_of-end.ensures).forward, (found (goal.at.overflow_add-from c).In-loop-i c.end_of-end.ensures).within)

pub slice_bounds-row_length-count : goal.slice_bounds-row_length-count
slice_bounds-row_length-count c = omega (arith, (found (goal.at.slice_bounds-row_length-count c).In-loop-i c.end_of-end.ensures).forward)

pub slice_bounds-row_length-start : goal.slice_bounds-row_length-start
slice_bounds-row_length-start c = omega (arith, (found (goal.at.slice_bounds-row_length-start c).In-loop-i c.end_of-end.ensures).forward, (found (goal.at.slice_bounds-row_length-start c).In-loop-i c.end_of-end.ensures).within)

pub slice_bounds-row_length-end : goal.slice_bounds-row_length-end
slice_bounds-row_length-end c = omega (arith, (found (goal.at.slice_bounds-row_length-end c).In-loop-i c.end_of-end.ensures).forward, (found (goal.at.slice_bounds-row_length-end c).In-loop-i c.end_of-end.ensures).within)

pub put_row-requires : goal.put_row-requires
put_row-requires c = let a = advanced (goal.at.put_row-requires c).In-loop-i c.end_of-end.ensures c.row_length-length.ensures in (room (goal.at.put_row-requires c).In-loop-i c.end_of-end.ensures c.row_length-length.ensures, omega (arith, a.forward, a.within, c.loop-i.invariant.short), omega (arith, a.small, c.loop-i.invariant.short))

pub loop-i-preserved : goal.loop-i-preserved
loop-i-preserved c =
    writing_next c.args.stream.now c.args.spans.now c.args.units c.args.rows.now c.loop-i.rows c.loop-i.scope c.loop-i.at c.loop-i.i _ _ _ c.loop-i.invariant (advanced (goal.at.loop-i-preserved c).In-loop-i c.end_of-end.ensures c.row_length-length.ensures) _ _ c.put_row.ensures (c.scope_after-scope.ensures ∙ (unit (goal.at.loop-i-preserved c).In-loop-i).after)

pub shape_of-rows : goal.shape_of-rows
shape_of-rows c = c.loop-i.invariant.same

pub returns : goal.returns
returns c = writing_end c.args.stream.now c.args.spans.now c.args.units c.args.rows.now c.loop-i.rows c.loop-i.scope c.loop-i.at c.loop-i.i c.loop-i.invariant c.loop-i-test.false
