-- TOO LONG, and then the first pass.
use mathlib.Core.Path.{sym, ap, ◌∙◌}
use lib.ListN.{length}
use Rattle.grammar.specs.Reader.{said, walk_of_any}
use Rattle.filing.proofs.Demand.{walk_long, walk_short, said_checked}
use Rattle.filing.proofs.check_keeping.Goals as goal

pub returns-then-stream-gt16777216 : goal.returns-then-stream-gt16777216
returns-then-stream-gt16777216 c = let a = c.args in (sym (ap (said length) (walk_long a.stream.now c.if-stream-gt16777216.true)), tt)

pub returns : goal.returns
returns c =
    let s = c.args.stream.now in
    let p = c.check_units.ensures in
    (said_checked (walk_of_any s) c.check_units.result p.answer ∙ ap (said length) (sym (walk_short s c.if-stream-gt16777216.false)), p.kept)
