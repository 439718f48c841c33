-- Document 01, "Refusal numbers", and document 02, E1: the number of each reason for which a stream is refused, and what it carries.
use Rattle.std.specs.Prelude.{ℕ, ◌≤◌, ◌≡◌, ◌⊎◌, List, [], ◌∷◌}
use Rattle.answers.specs.Answers.{Carried, at_offset, at_bit, NO_CODE, CUT, OVERLAP, UNKNOWN, OUT_OF_PLACE, MARKER, TWICE, UNENDED, FULL, TOO_LONG, VALUE_WIDTH, VALUE_SLICE_ORDER, VALUE_SLICE_ROW}
use Rattle.bodies.specs.Answers.{fault_number, fault_bit}
use Rattle.grammar.specs.declared.Reason.{Reason}
use Rattle.grammar.specs.declared.Reason.TheVariants as reason

abbrev pub reason_number : Reason → ℕ
reason_number reason.NoCode = NO_CODE
reason_number reason.Cut = CUT
reason_number reason.Overlap = OVERLAP
reason_number reason.Unknown = UNKNOWN
reason_number reason.OutOfPlace = OUT_OF_PLACE
reason_number (reason.Body fault) = fault_number fault
reason_number reason.SliceOrder = VALUE_SLICE_ORDER
reason_number reason.SliceRow = VALUE_SLICE_ROW
reason_number reason.Twice = TWICE
reason_number reason.Unended = UNENDED
reason_number reason.Full = FULL
reason_number reason.TooLong = TOO_LONG

-- the bit place inside the body, of MARKER and VALUE; "slice order and row give place 0"
abbrev pub reason_bit : Reason → List Carried
reason_bit reason.NoCode = []
reason_bit reason.Cut = []
reason_bit reason.Overlap = []
reason_bit reason.Unknown = []
reason_bit reason.OutOfPlace = []
reason_bit (reason.Body fault) = fault_bit fault
reason_bit reason.SliceOrder = at_bit 0 ∷ []
reason_bit reason.SliceRow = at_bit 0 ∷ []
reason_bit reason.Twice = []
reason_bit reason.Unended = []
reason_bit reason.Full = []
reason_bit reason.TooLong = []

-- what a stream's refusal carries: its offset and, "beside any offset", that bit
abbrev pub carries : Reason → ℕ → List Carried
carries why at = at_offset at ∷ reason_bit why

-- what is refused for a reason at an offset, by the number and what it carries
abbrev pub ByNumber : (Reason → ℕ → Type 0) → ℕ → List Carried → Type 0
ByNumber Refused n carried = (why : Reason) × (at : ℕ) × Refused why at × (n ≡ reason_number why) × (carried ≡ carries why at)

-- MARKER, or VALUE of a field or a slice: the numbers of the refusals that carry a bit
abbrev pub BitNumber : ℕ → Type 0
BitNumber n = (n ≡ MARKER) ⊎ ((VALUE_WIDTH ≤ n) × (n ≤ VALUE_SLICE_ROW))
