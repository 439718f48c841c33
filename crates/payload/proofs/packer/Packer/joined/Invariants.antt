-- Each turn picks a bit of the byte and joins it to those before.
use Rattle.payload.specs.Inside.{Joined}
use Rattle.payload.proofs.packer.Packer.joined.Given as goal

abbrev pub invariant-loop-j : goal.invariant-loop-j
invariant-loop-j l = Joined l.fn.self.value l.byte l.j l.value
