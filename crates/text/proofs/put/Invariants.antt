-- The bytes before the index have been put.
use lib.ListN.{take}
use Rattle.text.specs.Text.{Put}
use Rattle.text.proofs.put.Given as goal

abbrev pub invariant-loop-byte : goal.invariant-loop-byte
invariant-loop-byte l = Put l.at (take l.byte-index l.s) l.initial.out l.here l.out
