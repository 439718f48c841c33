-- Document 01, "Grammar of a stream": what a sequence header record says of macroblocks and slices.
use Rattle.std.specs.Prelude.{ℕ, ◌+◌, ◌*◌, ◌/◌, Bool, cond, leb, eqb}
use Rattle.bodies.specs.declared.SequenceHeader.{SequenceHeader}

-- Macroblock columns = (horizontal size + 15) / 16, whole division.
abbrev pub macroblock_columns : SequenceHeader → ℕ
macroblock_columns h = (h.horizontal + 15) / 16

-- Document 02, E4: when progressive is 0, macroblock rows = 2 × ((vertical size + 31) / 32); otherwise (vertical size + 15) / 16.
unfoldable pub macroblock_rows : SequenceHeader → ℕ
macroblock_rows h = cond (eqb h.progressive 0) (2 * ((h.vertical + 31) / 32)) ((h.vertical + 15) / 16)

-- Where vertical size is over 2800, neither the order nor the rows of slices are tested.
abbrev pub slices_tested : SequenceHeader → Bool
slices_tested h = leb h.vertical 2800
