-- An answer of the papers by value: a status, an offset, a count and a bit; a part of a stream; the number of a kind.
use Rattle.std.specs.Prelude.{ℕ, ◌+◌, ◌<◌, ◌≡◌, ◌≢◌, Option, Some, None, List, [], ◌∷◌}
use Rattle.answers.specs.Answers.{Carried, at_offset, at_bit, missing, Outcome, done, refused, map_done, FULL}
use Rattle.startcode.specs.declared.Kind.{Kind}
use Rattle.startcode.specs.declared.Kind.TheVariants.{Slice, SequenceHeader, SequenceEnd, UserData, IPicture, Extension, PBPicture, EditCode}
use Rattle.grammar.specs.Rows.{Row}
use Rattle.grammar.specs.Reasons.{BitNumber}
use Rattle.filing.specs.Filing.{ByReading}
use Rattle.filing.specs.declared.Totals.{Totals}
use Rattle.statuses.specs.declared.Answer.{Answer}
use Rattle.statuses.specs.declared.Part.{Part}

-- ── statuses ──

-- the offset that a refused stream carries; 0 where there is none, as document 01 has it for NO CODE, FULL and TOO LONG
abbrev pub offset_in : List Carried → ℕ
offset_in [] = 0
offset_in (at_offset n ∷ more) = n
offset_in (at_bit n ∷ more) = offset_in more
offset_in (missing n ∷ more) = offset_in more

-- in place of a bit, where there is none: no bit of a body is so great (BitMarked)
abbrev pub no_bit : ℕ
no_bit = 18446744073709551615

-- the bit that a refusal carries
abbrev pub bit_in : List Carried → ℕ
bit_in [] = no_bit
bit_in (at_offset n ∷ more) = bit_in more
bit_in (at_bit n ∷ more) = n
bit_in (missing n ∷ more) = bit_in more

-- what a refusal with a bit, or without one, carries of it
abbrev pub carried_bit : Option ℕ → List Carried
carried_bit None = []
carried_bit (Some n) = at_bit n ∷ []

-- A status is the papers' number; a refusal hands nothing over.
abbrev pub counted : Outcome ℕ → Answer
counted (done n) = record { status = 0; offset = 0; count = n; bit = no_bit }
counted (refused number carried) = record { status = number; offset = offset_in carried; count = 0; bit = bit_in carried }

-- An answer whose bit is one of the fields' bits, of which no layout has more than 112, exactly for MARKER and VALUE; in every other the
-- mark stands for it, which is no such bit.
pub record BitMarked (a : Answer) : Type 0 where
  pub given : BitNumber a.status → (a.bit < 112) × (a.bit ≢ no_bit)
  pub none : ¬ BitNumber a.status → a.bit ≡ no_bit

-- ── recordings ──

-- filing's count is that of the units
abbrev pub filed_answer : Outcome Totals → Answer
filed_answer o = counted (map_done (λ t. t.units) o)

-- demand 3 of such an answer: FILED is status 0 with the count, and any other status refuses
abbrev pub AnsweredByReading : List ℕ → List ℕ → List ℕ → Answer → Type 0
AnsweredByReading stream lent after a = ByReading stream lent after (λ n. (a.status ≡ 0) × (a.count ≡ n)) (a.status ≡ FULL) (a.status ≢ 0)

-- where the body of a row lies in the stream; for no row the empty part at the stream's start
abbrev pub part_at : Option Row → Part
part_at None = record { offset = 0; length = 0 }
part_at (Some r) = record { offset = r.offset + 4; length = r.length }

-- ── start codes ──

-- the numbers of the kinds of unit, in document 01's order
abbrev pub kind_number : Kind → ℕ
kind_number Slice = 0
kind_number SequenceHeader = 1
kind_number SequenceEnd = 2
kind_number UserData = 3
kind_number IPicture = 4
kind_number Extension = 5
kind_number PBPicture = 6
kind_number EditCode = 7

-- 8 where the code is UNKNOWN
abbrev pub kind_answer : Outcome Kind → ℕ
kind_answer (done kind) = kind_number kind
kind_answer (refused number carried) = 8
