-- Removal of escape bits.
use Rattle.std.specs.Prelude.{ℕ, List, [], ◌∷◌, ◌++◌, cond, ◌&&◌, eqb, ltb, length, take, drop, Result, Ok, Err}
use Rattle.answers.specs.Answers.{Outcome, done, refused, refuse_if, FULL, TOO_LONG}
use Rattle.answers.specs.Limits.{longest_payload}
use Rattle.bits.specs.Bits.{bits_in, pack}
use Rattle.payload.specs.declared.RemovalError.{RemovalError}
use Rattle.payload.specs.declared.RemovalError.TheVariants.{Full, TooLong}

-- The bits that stay of a raw byte, by the raw bytes before it in the payload, the nearest first:
-- of an 02 after two 00 the last two bits are dropped.
unfoldable pub kept : List ℕ → ℕ → List ℕ
kept [] byte = bits_in 8 byte
kept (b ∷ []) byte = bits_in 8 byte
kept (b ∷ a ∷ earlier) byte = cond (eqb a 0 && (eqb b 0 && eqb byte 2)) (take 6 (bits_in 8 byte)) (bits_in 8 byte)

-- raw bytes are copied bit by bit
unfoldable pub copied : List ℕ → List ℕ → List ℕ
copied earlier [] = []
copied earlier (byte ∷ raw) = kept earlier byte ++ copied (byte ∷ earlier) raw

-- the bits of a payload without its escape bits
abbrev pub unescaped : List ℕ → List ℕ
unescaped raw = copied [] raw

-- the answer is the bit count, for an output of `room` bytes
unfoldable pub removal : List ℕ → ℕ → Outcome ℕ
removal raw room =
    refuse_if (ltb longest_payload (length raw)) TOO_LONG
    (refuse_if (ltb room (length raw)) FULL
    (done (length (unescaped raw))))

-- the output after an answer: packed, its last byte filled with zeros, later bytes stay; a refusal leaves all
abbrev pub output_after : Outcome ℕ → List ℕ → List ℕ → List ℕ
output_after (done count) raw output = pack (unescaped raw) ++ drop (length (pack (unescaped raw))) output
output_after (refused number carried) raw output = output

-- the numbers of `remove_escapes`' answers
abbrev pub removed_says : Result ℕ RemovalError → Outcome ℕ
removed_says (Ok count) = done count
removed_says (Err Full) = refused FULL []
removed_says (Err TooLong) = refused TOO_LONG []
