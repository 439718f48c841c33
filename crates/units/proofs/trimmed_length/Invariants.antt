-- The bytes that are left are trimmed to what all are.
use Prim.Native.Nat.{◌≤◌}
use mathlib.Core.Path.{◌≡◌}
use lib.ListN.{length, take}
use Rattle.grammar.specs.Rows.{trimmed}
use Rattle.units.proofs.trimmed_length.Given as goal

abbrev pub invariant-loop-n : goal.invariant-loop-n
invariant-loop-n l = (l.n ≤ length l.body) × (length (trimmed l.body) ≡ length (trimmed (take l.n l.body)))

abbrev pub decreases-loop-n : goal.decreases-loop-n
decreases-loop-n l = l.n
