-- The pairs of the bytes before the index are written.
use Rattle.std.proofs.Common.{◌++◌, arith, rules, get_or, take, sym, ap, ◌∙◌}
use Rattle.std.proofs.Output.{has_written_of_eq, has_written_append}
use Rattle.std.proofs.lemmas.Fmt.{hex_byte}
use Rattle.text.specs.Text.{pairs}
use Rattle.text.proofs.SpellingLaws.{pairs_more, hex_none, hex_some}
use Rattle.text.proofs.HexDisplay.fmt.Goals as goal

pub returns-then-is_empty-clause-writes : goal.returns-then-is_empty-clause-writes
returns-then-is_empty-clause-writes g c =
    λ plain ok. has_written_of_eq _ _ _ _ _ (sym (hex_none c.args.self.now.0.now (search rules))) (c.write.ensures.writes plain ok)

pub loop-byte-init : goal.loop-byte-init
unfolding pairs
loop-byte-init g c = search rules

pub loop-byte-preserved : goal.loop-byte-preserved
loop-byte-preserved g c =
    let s = c.args.self.now.0.now in
    let i = c.loop-byte.byte-index in
    λ plain.
    let so_far = c.loop-byte.invariant plain in
    let written = rw (c.in_radix.ensures, c.laid_out.ensures) at c.write-in-loop-byte.ensures.writes in
    has_written_of_eq _ _ _ _ _
    (ap (λ t. pairs (take i s) ++ t) (hex_byte _ (get_or s i 0) (omega (arith, c.in_radix.ensures))) ∙ sym (pairs_more s i c.loop-byte-test.true))
    (has_written_append _ _ _ _ _ _ so_far (written so_far.plain (search rules)))

pub returns-clause-writes : goal.returns-clause-writes
returns-clause-writes g c =
    let s = c.args.self.now.0.now in
    λ plain ok. has_written_of_eq _ _ _ _ _ (sym (hex_some s c.loop-byte.byte-index (search rules) c.loop-byte-test.false)) (c.loop-byte.invariant plain)
