-- Sixteen bits of the word that is picked.
use Prim.Native.Nat.{◌*◌, ◌/◌, ◌%◌, ◌^◌}
use mathlib.Core.Path.{ap, ◌∙◌}
use Rattle.rates.specs.Rates.{w_of}
use Rattle.entries.specs.Inside.{pick_of}
use Rattle.entries.proofs.read.Goals as goal

pub returns : goal.returns
returns c =
    let a = c.args in
    ap (λ word. word / 2 ^ (16 * (a.lg % 4)) % 65536) (c.picked-word.ensures ∙ ap (λ words. pick_of words (w_of a.rate)) c.words_at.ensures)
