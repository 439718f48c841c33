-- Document 01, "Rows", and document 02, E1: reading a header or extension body answers its record or its refusal.
use Rattle.std.specs.Prelude.{ℕ, List, [], ◌∷◌, Result, Ok, Err}
use Rattle.answers.specs.Answers.{Carried, at_bit, Outcome, done, refused, SHORT, MARKER, STUFFING, VALUE_WIDTH, VALUE_HEIGHT, VALUE_CHROMA, VALUE_PRECISION, VALUE_ASPECT, VALUE_RATE, VALUE_TRANSFER, VALUE_MATRIX, VALUE_STEREO, VALUE_COPYRIGHT_OWNER, VALUE_COPYRIGHT_NUMBER}
use Rattle.layout.specs.declared.JudgedField.{JudgedField}
use Rattle.layout.specs.declared.JudgedField.TheVariants.{Width, Height, Chroma, Precision, Aspect, Rate, Transfer, Matrix, Stereo, CopyrightOwner, CopyrightNumber}
use Rattle.layout.specs.declared.Fault.{Fault}
use Rattle.layout.specs.declared.Fault.TheVariants as fault

-- ── refusals ──

-- "VALUE becomes a number for each field"
unfoldable pub value_number : JudgedField → ℕ
value_number Width = VALUE_WIDTH
value_number Height = VALUE_HEIGHT
value_number Chroma = VALUE_CHROMA
value_number Precision = VALUE_PRECISION
value_number Aspect = VALUE_ASPECT
value_number Rate = VALUE_RATE
value_number Transfer = VALUE_TRANSFER
value_number Matrix = VALUE_MATRIX
value_number Stereo = VALUE_STEREO
value_number CopyrightOwner = VALUE_COPYRIGHT_OWNER
value_number CopyrightNumber = VALUE_COPYRIGHT_NUMBER

-- the number of what is wrong with a body
unfoldable pub fault_number : Fault → ℕ
fault_number fault.Short = SHORT
fault_number (fault.Marker at) = MARKER
fault_number (fault.Value field at) = value_number field
fault_number fault.Stuffing = STUFFING

-- "MARKER and VALUE refusals should carry .. the bit place inside the body, counted from 0."
unfoldable pub fault_bit : Fault → List Carried
fault_bit fault.Short = []
fault_bit (fault.Marker at) = at_bit at ∷ []
fault_bit (fault.Value field at) = at_bit at ∷ []
fault_bit fault.Stuffing = []

-- a value, or what is wrong with the body, in the papers' terms
unfoldable pub answer_of : {A : Type 0} → Result A Fault → Outcome A
answer_of (Ok a) = done a
answer_of (Err fault) = refused (fault_number fault) (fault_bit fault)
