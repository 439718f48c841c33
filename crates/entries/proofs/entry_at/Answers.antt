-- What is read within the table, and none past it.
use Prim.Native.Nat.{◌≤◌}
use mathlib.Core.Path.{sym, ap, ◌∙◌}
use native.Mathlib.Omega.{arith}
use Rattle.std.proofs.Common.{Some}
use Rattle.entries.proofs.WordLaws.{read_is}
use Rattle.entries.proofs.Main.{entry_given, entry_not_given}
use Rattle.entries.proofs.entry_at.Goals as goal

pub returns-then-index-gt1023 : goal.returns-then-index-gt1023
returns-then-index-gt1023 c = let a = c.args in sym (entry_not_given a.rate a.index (omega arith))

pub returns : goal.returns
returns c =
    let a = c.args in
    let within : a.index ≤ 1023 = omega arith in
    ap Some (c.read.ensures ∙ read_is a.rate a.index within)
    ∙ sym (entry_given a.rate a.index within)
