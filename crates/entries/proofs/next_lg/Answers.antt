-- The entry within the table, and the formula past it.
use mathlib.Core.Path.{◌∙◌}
use native.Mathlib.Omega.{arith}
use Rattle.entries.proofs.WordLaws.{read_is}
use Rattle.entries.proofs.next_lg.Goals as goal

pub returns : goal.returns
returns c =
    let a = c.args in
    c.read.ensures ∙ read_is a.rate a.lg (omega arith)
