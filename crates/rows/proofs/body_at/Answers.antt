-- The three words at i are those of the row, where the words hold it.
use mathlib.Core.Path.{◌≡◌, refl, sym, ap, ◌∙◌}
use native.Mathlib.Omega.{arith}
use Rattle.std.proofs.Common.{Some}
use Rattle.rows.specs.Rows.{held_row}
use Rattle.rows.proofs.RowLaws.{row_of, row_held, row_lacking, body_there, body_past, body_lacking}
use Rattle.rows.proofs.body_at.Goals as goal
use Rattle.rows.proofs.body_at.Goals.{In_ok-offset}

held : (c : In_ok-offset) → held_row c.args.rows.now c.args.i ≡ Some (row_of c.in_ok-offset.field-0.now)
held c =
    let ws = c.args.rows.now in
    let x = c.in_ok-offset.field-0.now in
    let within = c.in_ok-offset.ensures.lookup.3.0 in
    let e = c.as_chunks.ensures.front_len in
    row_held _ ws c.args.i x refl (omega arith) ∙ ap (λ ys. Some (row_of ys)) (sym (rw (c.as_chunks.ensures.front) at c.in_ok-offset.ensures.lookup.1))

pub returns-in_err-offset : goal.returns-in_err-offset
returns-in_err-offset c =
    let a = c.args in
    let past = c.in_err-offset.ensures.lookup.3 in
    let e = c.as_chunks.ensures.front_len in
    c.from_residual.ensures ∙ body_lacking a.stream.now a.rows.now a.i (row_lacking a.rows.now a.i (omega arith))

pub returns-then-start-length : goal.returns-then-start-length
returns-then-start-length c =
    let a = c.args in
    body_there a.stream.now a.rows.now a.i _ (held (goal.at.returns-then-start-length c).In_ok-offset) (omega arith)

pub returns-else-start-length : goal.returns-else-start-length
returns-else-start-length c =
    let a = c.args in
    body_past a.stream.now a.rows.now a.i _ (held (goal.at.returns-else-start-length c).In_ok-offset) (omega arith)
