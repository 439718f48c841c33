-- The pairs of the bytes before the index have been put.
use mathlib.Core.Path.{sym}
use borrow.Author.Rules.{rules}
use Rattle.text.proofs.PutLaws.{put_none, put_then, put_same}
use Rattle.text.proofs.SpellingLaws.{pairs_none, pairs_more, hex_none, hex_some}
use Rattle.text.proofs.put_hex.Goals as goal

pub returns-then-is_empty : goal.returns-then-is_empty
returns-then-is_empty c = put_same (sym (hex_none c.args.s.now (search rules))) c.put_byte.ensures

pub loop-byte-init : goal.loop-byte-init
loop-byte-init c = put_same (sym pairs_none) (put_none (search rules))

pub loop-byte-preserved : goal.loop-byte-preserved
loop-byte-preserved c =
    let s = c.args.s.now in
    put_same (sym (pairs_more s c.loop-byte.byte-index c.loop-byte-test.true)) (put_then c.loop-byte.invariant c.put_pair-here.ensures)

pub returns : goal.returns
returns c =
    let s = c.args.s.now in
    put_same (sym (hex_some s c.loop-byte.byte-index (search rules) c.loop-byte-test.false)) c.loop-byte.invariant
