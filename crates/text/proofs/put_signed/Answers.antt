use mathlib.Core.Path.{◌∙◌}
use Rattle.text.proofs.PutLaws.{put_then, put_same}
use Rattle.text.proofs.SpellingLaws.{signed_minus, signed_plain}
use Rattle.text.proofs.put_signed.Goals as goal

pub returns-then-n-lt0 : goal.returns-then-n-lt0
returns-then-n-lt0 c =
    put_same
    (signed_minus c.args.n c.ranges.n c.from-magnitude.result (c.from-magnitude.ensures ∙ c.unsigned_abs.ensures.value) c.if-n-lt0.true)
    (put_then c.put_byte-here.ensures c.put_number.ensures)

pub returns : goal.returns
returns c =
    put_same
    (signed_plain c.args.n c.ranges.n c.from-magnitude.result (c.from-magnitude.ensures ∙ c.unsigned_abs.ensures.value) c.if-n-lt0.false)
    c.put_number-2.ensures
