-- The bytes before the index have been put.
use borrow.Author.Rules.{rules}
use Rattle.text.proofs.PutLaws.{put_none, put_more, put_all}
use Rattle.text.proofs.put.Goals as goal

pub loop-byte-init : goal.loop-byte-init
loop-byte-init c = put_none (search rules)

pub loop-byte-preserved : goal.loop-byte-preserved
loop-byte-preserved c =
    put_more c.args.s.now c.loop-byte.byte-index c.loop-byte-test.true c.loop-byte.invariant c.put_byte-here.ensures

pub returns : goal.returns
returns c = put_all c.args.s.now c.loop-byte.byte-index c.loop-byte-test.false c.loop-byte.invariant
