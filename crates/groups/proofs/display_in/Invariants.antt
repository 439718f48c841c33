-- What is left of the head has the same display extension.
use mathlib.Core.Path.{◌≡◌}
use Rattle.groups.specs.Reader.{display_in}
use Rattle.groups.proofs.display_in.Given as goal

abbrev pub invariant-loop-unit : goal.invariant-loop-unit
invariant-loop-unit l = display_in l.unit-iterator ≡ display_in l.fn.units
