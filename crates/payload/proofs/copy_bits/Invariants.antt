-- What is pushed and what is still to come make the whole.
use Rattle.payload.proofs.EscapeLaws.{Copying}
use Rattle.payload.proofs.copy_bits.Given as goal

abbrev pub invariant-loop-byte : goal.invariant-loop-byte
invariant-loop-byte l = Copying l.raw l.initial.out l.out l.packer l.zeros l.byte-index
