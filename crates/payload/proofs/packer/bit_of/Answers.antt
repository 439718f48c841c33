-- The shift and the mask pick the bit.
use borrow.Author.Rules.{rules}
use Rattle.payload.proofs.EscapeLaws.{picked}
use Rattle.payload.proofs.packer.bit_of.Goals as goal

pub returns : goal.returns
returns c = let a = c.args in picked a.byte c.from.result a.j c.from.ensures (search rules)
