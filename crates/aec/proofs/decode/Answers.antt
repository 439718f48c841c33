-- By one context.
use Rattle.aec.specs.Bins.{decode_of}
use Rattle.aec.specs.Inside.{bin_by}
use Rattle.aec.proofs.decode.Goals as goal

pub returns : goal.returns
unfolding decode_of bin_by
returns c = c.bin_by.ensures
