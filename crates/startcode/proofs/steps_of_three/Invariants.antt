-- Each third byte over 1 is a step of three; where the turn ends, its steps are added to those before it.
use Prim.Native.Nat.{◌-◌}
use mathlib.Core.Path.{◌≡◌}
use lib.ListN.{length}
use Rattle.startcode.specs.Inside.{Runs}
use Rattle.startcode.proofs.steps_of_three.Given as goal

abbrev pub invariant-loop-place : goal.invariant-loop-place
invariant-loop-place l = (l.n ≡ length l.stream) × Runs l.stream l.from l.place l.steps

abbrev pub decreases-loop-place : goal.decreases-loop-place
decreases-loop-place l = l.n - l.place
