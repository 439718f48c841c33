-- The pairs of the bytes before the index have been put.
use lib.ListN.{take}
use Rattle.text.specs.Text.{Put, pairs}
use Rattle.text.proofs.put_hex.Given as goal

abbrev pub invariant-loop-byte : goal.invariant-loop-byte
invariant-loop-byte l = Put l.at (pairs (take l.byte-index l.s)) l.initial.out l.here l.out
