-- What is proved of one unit beyond the contract of the function.
use Prim.Native.Nat.{ℕ}
use mathlib.Core.Path.{◌≡◌}
use mathlib.Core.List.{List}
use mathlib.Core.Bool.{true}
use lib.ListN.{drop}
use Rattle.startcode.specs.Prefix.{begins}
use Rattle.grammar.specs.declared.State.{State}
use Rattle.units.specs.Reader.{unit_at}
use Rattle.units.proofs.UnitLaws as proof
use Rattle.units.proofs.UnitLaws.{Left}

-- Where 00 00 01 stands, the unit that is answered is the next of the walk, with its place, its row's length and its end, from which the walk
-- goes on; a unit that is refused stops the walk there, for its reason. (The walk's units are those of the reading: walked_iff of crate grammar.)
pub what_is_left : (stream : List ℕ) (state : State) (at : ℕ) → begins (drop at stream) ≡ true → Left stream state at (unit_at stream state at)
what_is_left = proof.what_is_left
