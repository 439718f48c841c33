-- A body is within the stream.
use native.Mathlib.Omega.{arith}
use borrow.Author.Rules.{rules}
use Rattle.rows.proofs.RowLaws.{body_inside}
use Rattle.rows.proofs.row_body.Goals as goal

pub overflow_add-result : goal.overflow_add-result
overflow_add-result c = let a = c.args in let h = body_inside a.stream.now a.rows.now a.i c.in-Some.body c.in-Some.ensures in search rules

pub slice_bounds-result-end : goal.slice_bounds-result-end
slice_bounds-result-end c = let a = c.args in let h = body_inside a.stream.now a.rows.now a.i c.in-Some.body c.in-Some.ensures in omega arith
