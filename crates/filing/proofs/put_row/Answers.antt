-- Three words are stored in their places.
use mathlib.Core.Path.{ap, ◌∙◌}
use Prim.Native.Nat.{ℕ, ◌+◌, ◌*◌}
use mathlib.Core.List.{◌∷◌, ◌++◌}
use lib.ListN.{take, drop}
use Rattle.filing.proofs.PassLaws.{three_set}
use Rattle.filing.proofs.put_row.Goals as goal

pub returns : goal.returns
returns c = let a = c.args in three_set a.rows.now (a.i * 3) c.from.result a.offset a.length c.requires.0 ∙ ap (λ (x : ℕ). take (a.i * 3) a.rows.now ++ (x ∷ a.offset ∷ a.length ∷ drop (a.i * 3 + 3) a.rows.now)) c.from.ensures
