-- The rules across fields, then the end.
use Prim.Native.Nat.{◌-◌}
use mathlib.Core.Path.{sym, ◌∙◌}
use mathlib.Core.Bool.{true, false}
use native.Mathlib.Omega.{arith}
use Rattle.layout.proofs.LayoutLaws.{table}
use Rattle.layout.proofs.JudgeLaws.{end_decides}
use Rattle.layout.proofs.judge_body.Goals as goal

pub overflow_sub-least_bytes : goal.overflow_sub-least_bytes
overflow_sub-least_bytes c = omega (arith, (table c.args.layout).whole, c.least_bytes.ensures)

pub is_stuffed-requires : goal.is_stuffed-requires
is_stuffed-requires c = omega (arith, (table c.args.layout).whole, c.least_bytes.ensures, c.requires.0)

pub returns-then-not-is_stuffed : goal.returns-then-not-is_stuffed
returns-then-not-is_stuffed c = let a = c.args in
    sym
    (end_decides a.layout a.body.now a.values.now (c.least_bytes.result - 1) false (sym c.cross_values.ensures ∙ c.in_ok-cross_values.was)
    (omega (arith, (table a.layout).whole, c.least_bytes.ensures))
    (sym c.if-not-is_stuffed.true ∙ c.is_stuffed.ensures))

pub returns : goal.returns
returns c = let a = c.args in
    sym
    (end_decides a.layout a.body.now a.values.now (c.least_bytes.result - 1) true (sym c.cross_values.ensures ∙ c.in_ok-cross_values.was)
    (omega (arith, (table a.layout).whole, c.least_bytes.ensures))
    (sym c.if-not-is_stuffed.false ∙ c.is_stuffed.ensures))
