-- What is counted and what is left make the whole count.
use Prim.Native.Nat.{◌-◌}
use mathlib.Core.Path.{◌≡◌}
use lib.ListN.{length}
use Rattle.filing.proofs.PassLaws.{Checking}
use Rattle.filing.proofs.check_units.Given as goal

abbrev pub invariant-loop-at : goal.invariant-loop-at
invariant-loop-at l = Checking l.stream l.spans l.state l.at l.units × (length l.spans ≡ length l.initial.spans)

abbrev pub decreases-loop-at : goal.decreases-loop-at
decreases-loop-at l = length l.stream - l.at
