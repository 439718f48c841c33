-- Document 01, "Table of proved examples": what the definitions answer, beside what the table says.
use Rattle.std.specs.Prelude.{ℕ, zero, suc, ◌≡◌, List, [], ◌∷◌, ◌++◌, ℤ, pos, neg_ℤ, length}
use Rattle.answers.specs.Answers.{Carried, at_offset, at_bit, Outcome, done, refused, map_done, NO_CODE, CUT, STUFFING, UNENDED, FULL, VALUE_SLICE_ROW, and_then}
use Rattle.answers.specs.Missing.{payload_out}
use Rattle.startcode.specs.declared.Kind.{Kind}
use Rattle.bodies.specs.Reader.{header_of}
use Rattle.bodies.specs.declared.SequenceHeader.{SequenceHeader}
use Rattle.macroblocks.specs.Macroblocks.{macroblock_columns, macroblock_rows}
use Rattle.grammar.specs.Rows.{words}
use Rattle.grammar.specs.Reader.{filing_into}
use Rattle.payload.specs.Escape.{removal, output_after}
use Rattle.payload.specs.Reader.{golomb, signed_golomb}
use Rattle.contexts.specs.Contexts.{fresh_context}
use Rattle.aec.specs.Bins.{start_of, decode_of}
use Rattle.aec.specs.declared.State.{State}
use Rattle.contexts.specs.declared.Context.{Context}

-- an answer: numbers in document 01's order, one signed number, or the kind of a unit
pub data Told : Type 0 where
  numbers : Outcome (List ℕ) → Told
  signed : Outcome ℤ → Told
  kind : Outcome Kind → Told

-- what the definitions answer, and what the table says
pub record Example : Type 0 where
  pub answer : Told
  pub table : Told

infix 80 ◌gives◌ ◌stands_as◌ ◌is_a◌
abbrev pub ◌gives◌ : Outcome (List ℕ) → Outcome (List ℕ) → Example
answer gives table = record { answer = numbers answer; table = numbers table }

abbrev pub ◌stands_as◌ : Outcome ℤ → ℤ → Example
answer stands_as n = record { answer = signed answer; table = signed (done n) }

abbrev pub ◌is_a◌ : Outcome Kind → Outcome Kind → Example
answer is_a table = record { answer = kind answer; table = kind table }

-- what a refusal carries: an offset, a bit
abbrev pub at : ℕ → List Carried
at offset = at_offset offset ∷ []

abbrev pub bit : ℕ → List Carried
bit place = at_bit place ∷ []

-- ── streams ──

-- header H, by its last byte
abbrev pub header : ℕ → List ℕ
header last = 0x48 ∷ 0x40 ∷ 0x0F ∷ 0x00 ∷ 0x21 ∷ 0xC2 ∷ 0x4C ∷ 0xC4 ∷ 0xE2 ∷ 0x08 ∷ 0x00 ∷ 0x20 ∷ 0x02 ∷ 0x00 ∷ last ∷ []

abbrev pub header_line : SequenceHeader → List ℕ
header_line h = h.horizontal ∷ h.vertical ∷ h.bitrate ∷ macroblock_columns h ∷ macroblock_rows h ∷ []

-- the stream of example 1, by H's last byte, the slice byte and its ending
abbrev pub stream : ℕ → ℕ → List ℕ → List ℕ
stream last slice ending = 0 ∷ 0 ∷ 1 ∷ 0xB0 ∷ header last ++ 0 ∷ 0 ∷ 1 ∷ 0xB3 ∷ 0x80 ∷ 0 ∷ 0 ∷ 1 ∷ slice ∷ 0x80 ∷ ending

abbrev pub sequence_end : List ℕ
sequence_end = 0 ∷ 0 ∷ 1 ∷ 0xB1 ∷ []

-- the number of units, and the words of the rows, where so many words are lent
abbrev pub filed : List ℕ → ℕ → Outcome (List ℕ)
filed s lent = map_done (λ rs. length rs ∷ words rs) (filing_into s lent)

-- ── payloads ──

-- the bit count, and an output of as many bytes
abbrev pub unescaped : List ℕ → List ℕ → Outcome (List ℕ)
unescaped raw output = map_done (λ bits. bits ∷ output_after (done bits) raw output) (removal raw (length output))

-- the number at the first bit
abbrev pub number : List ℕ → ℕ → Outcome (List ℕ)
number bytes bits = map_done (λ n. n.number ∷ []) (golomb bytes bits 0)

abbrev pub signed_number : List ℕ → ℕ → Outcome ℤ
signed_number bytes bits = map_done (λ n. n.number) (signed_golomb bytes bits 0)

-- ── bins ──

abbrev pub state_numbers : State → List ℕ
state_numbers x = x.rs ∷ x.rt ∷ x.vs ∷ x.vt ∷ x.place ∷ []

abbrev pub context_numbers : Context → List ℕ
context_numbers c = c.mps ∷ c.lg ∷ c.cycno ∷ []

-- so many bins by one context, each with the state and the context after the one before; then what is told of the last
unfoldable pub bins : (State → Context → List ℕ) → ℕ → List ℕ → ℕ → State → Context → Outcome (List ℕ)
bins last zero bytes bits x c = done (last x c)
bins last (suc n) bytes bits x c = and_then (decode_of bytes bits x c) (λ r. map_done (λ more. r.0 ∷ more) (bins last n bytes bits r.1 r.2))

-- from the start on, by a fresh context
abbrev pub bins_of : (State → Context → List ℕ) → ℕ → List ℕ → ℕ → Outcome (List ℕ)
bins_of last n bytes bits = and_then (start_of bytes bits) (λ x. bins last n bytes bits x fresh_context)

-- ── the table ──

abbrev pub examples : List Example
examples =
    -- header H: 1920 by 1080, bit rate 20,000, 120 columns, 68 rows
    map_done header_line (header_of (header 0x80)) gives done (1920 ∷ 1080 ∷ 20000 ∷ 120 ∷ 68 ∷ [])
    -- 1
    ∷ filed (stream 0x80 0x00 sequence_end) 12 gives done (4 ∷ 176 ∷ 0 ∷ 15 ∷ 179 ∷ 19 ∷ 1 ∷ 0 ∷ 24 ∷ 1 ∷ 177 ∷ 29 ∷ 0 ∷ [])
    -- 2: with 11 words lent
    ∷ filed (stream 0x80 0x00 sequence_end) 11 gives refused FULL (at 0)
    -- 3: without its last four bytes
    ∷ filed (stream 0x80 0x00 []) 12 gives refused UNENDED (at 29)
    -- 4: without its last byte
    ∷ filed (stream 0x80 0x00 (0 ∷ 0 ∷ 1 ∷ [])) 12 gives refused CUT (at 29)
    -- 5: empty stream
    ∷ filed [] 12 gives refused NO_CODE (at 0)
    -- 6: H with last byte 00, as a body and in the stream
    ∷ map_done header_line (header_of (header 0x00)) gives refused STUFFING []
    ∷ filed (stream 0x00 0x00 sequence_end) 12 gives refused STUFFING (at 0)
    -- 7: slice byte 44 for 00; 43 is filed
    ∷ filed (stream 0x80 0x44 sequence_end) 12 gives refused VALUE_SLICE_ROW (at 24 ++ bit 0)
    ∷ filed (stream 0x80 0x43 sequence_end) 12 gives done (4 ∷ 176 ∷ 0 ∷ 15 ∷ 179 ∷ 19 ∷ 1 ∷ 0x43 ∷ 24 ∷ 1 ∷ 177 ∷ 29 ∷ 0 ∷ [])
    -- 8: 30 bits, 00 00 03 00
    ∷ unescaped (0x00 ∷ 0x00 ∷ 0x02 ∷ 0xC0 ∷ []) (0xFF ∷ 0xFF ∷ 0xFF ∷ 0xFF ∷ []) gives done (30 ∷ 0x00 ∷ 0x00 ∷ 0x03 ∷ 0x00 ∷ [])
    -- 9: bits 1, 010 and 011
    ∷ number (0x80 ∷ []) 1 gives done (0 ∷ [])
    ∷ number (0x40 ∷ []) 3 gives done (1 ∷ [])
    ∷ signed_number (0x40 ∷ []) 3 stands_as pos 1
    ∷ number (0x60 ∷ []) 3 gives done (2 ∷ [])
    ∷ signed_number (0x60 ∷ []) 3 stands_as neg_ℤ (pos 1)
    -- 10: bin 1; rS 0, rT 254, valueS 8, valueT 0, place 18; mps 1, lg 827, cycno 1
    ∷ bins_of (λ x c. state_numbers x ++ context_numbers c) 1 (0x80 ∷ 0x40 ∷ 0x00 ∷ []) 24 gives done (1 ∷ 0 ∷ 254 ∷ 8 ∷ 0 ∷ 18 ∷ 1 ∷ 827 ∷ 1 ∷ [])
    -- 11: bins 0, 0, 1; then rT 188, valueS 0, valueT 28, place 12; lg 927, cycno 2
    ∷ bins_of (λ x c. x.rt ∷ x.vs ∷ x.vt ∷ x.place ∷ c.lg ∷ c.cycno ∷ []) 3 (0x40 ∷ 0x00 ∷ []) 16 gives done (0 ∷ 0 ∷ 1 ∷ 188 ∷ 0 ∷ 28 ∷ 12 ∷ 927 ∷ 2 ∷ [])
    -- 12: start done; the first bin PAYLOAD OUT, with one bit missing (E13)
    ∷ bins_of (λ x c. []) 0 (0x80 ∷ 0x00 ∷ []) 16 gives done []
    ∷ bins_of (λ x c. []) 1 (0x80 ∷ 0x00 ∷ []) 16 gives payload_out 1
    ∷ []

-- each answer is the table's
abbrev pub Holds : Example → Type 0
Holds e = e.answer ≡ e.table
