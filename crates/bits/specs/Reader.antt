-- Many bits at once, by the one read: what is computed, and no part of document 01.
use Rattle.std.specs.Prelude.{ℕ, ◌-◌, ◌%◌, List, cond, length, leb, Option, Some, None, Result, Ok, Err}
use Rattle.bits.specs.Bits.{read_at}
use Rattle.bits.specs.declared.Word.{Word}

abbrev pub word_says : ℕ → Result ℕ ℕ → Option Word
word_says width (Ok n) = Some (record { bits = n; width = width })
word_says width (Err m) = None

-- the bits from a place on to the end of the fourth byte, where 32 are left
unfoldable pub word_at : List ℕ → ℕ → Option Word
word_at bits place = cond (leb 32 (length bits - place)) (word_says (32 - place % 8) (read_at bits place (32 - place % 8))) None
