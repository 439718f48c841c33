-- The steps so far lead to the present place, whose third byte is looked at; where the arms meet, one step more leads past it.
use Prim.Native.Nat.{◌-◌, ◌≤◌}
use mathlib.Core.Path.{◌≡◌}
use lib.ListN.{length}
use Rattle.startcode.specs.Inside.{Leads}
use Rattle.startcode.proofs.search.Given as goal

abbrev pub invariant-loop-third : goal.invariant-loop-third
invariant-loop-third l = (l.n ≡ length l.stream) × (2 ≤ l.third) × Leads l.stream l.from (l.third - 2) l.steps

abbrev pub decreases-loop-third : goal.decreases-loop-third
decreases-loop-third l = l.n - l.third
