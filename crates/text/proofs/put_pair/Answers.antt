use Rattle.text.proofs.PutLaws.{put_then, put_same}
use Rattle.text.proofs.put_pair.Goals as goal

pub returns : goal.returns
returns c = put_same (cc) (put_then c.put_byte-here.ensures c.put_byte.ensures)
