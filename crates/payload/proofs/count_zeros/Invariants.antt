-- The zeros that are left to count, after those that are counted, make the whole.
use mathlib.Core.Path.{◌≡◌}
use lib.ListN.{drop}
use Rattle.bits.specs.Bits.{payload}
use Rattle.payload.specs.Reader.{zeros_on}
use Rattle.payload.proofs.GolombLaws.{zeros_from}
use Rattle.payload.proofs.count_zeros.Given as goal

abbrev pub invariant-loop-zeros : goal.invariant-loop-zeros
invariant-loop-zeros l =
    zeros_on 0 l.place (drop l.place (payload l.bits.bytes.now l.bits.count)) ≡ zeros_from l.zeros l.next (payload l.bits.bytes.now l.bits.count)
