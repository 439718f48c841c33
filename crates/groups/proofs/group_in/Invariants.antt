-- Number g of all groups is number `skip` of those that are left.
use mathlib.Core.Path.{◌≡◌}
use lib.ListN.{length}
use Rattle.groups.specs.Reader.{group_in}
use Rattle.groups.proofs.group_in.Given as goal

abbrev pub invariant-loop-unit : goal.invariant-loop-unit
invariant-loop-unit l = group_in l.skip l.units ≡ group_in l.fn.g l.fn.units

abbrev pub decreases-loop-unit : goal.decreases-loop-unit
decreases-loop-unit l = length l.units
