-- By two contexts.
use Rattle.aec.proofs.BinLaws.{pair_says}
use Rattle.aec.proofs.decode_pair.Goals as goal

pub returns : goal.returns
returns c = let a = c.args in pair_says a.bits.bytes.now a.bits.count a.x a.a a.b _ c.bin_by.ensures
