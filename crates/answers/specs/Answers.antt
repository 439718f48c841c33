-- Document 01, "Refusal numbers", and document 02, E1: what an answer is, and the number of each refusal.
use Rattle.std.specs.Prelude.{ℕ, ◌≡◌, List, [], Bool, cond}

-- What a refusal carries: its offset in the stream, "the bit place inside the body, counted from 0" (E1), or "how many more bits a
-- failing read wanted" (E13).
pub data Carried : Type 0 where
  at_offset : ℕ → Carried
  at_bit : ℕ → Carried
  missing : ℕ → Carried

-- An answer in the papers' terms: number 0 with its value, or the number of a refusal with what it carries.
pub data Outcome (A : Type 0) : Type 0 where
  done : A → Outcome A
  refused : ℕ → List Carried → Outcome A

-- a refusal where a test holds, before all that comes after it
abbrev pub refuse_if : {A : Type 0} → Bool → ℕ → Outcome A → Outcome A
refuse_if test number rest = cond test (refused number []) rest

-- another value for one that is done; a refusal stays
abbrev pub map_done : {A B : Type 0} → (A → B) → Outcome A → Outcome B
map_done f (done a) = done (f a)
map_done f (refused number carried) = refused number carried

-- one step after another: a value goes on to the next step, a refusal stands
abbrev pub and_then : {A B : Type 0} → Outcome A → (A → Outcome B) → Outcome B
and_then (done value) next = next value
and_then (refused number carried) next = refused number carried

-- no two answers say the same
abbrev pub OneToOne : {A B : Type 0} → (A → B) → Type 0
OneToOne {A} says = (a b : A) → says a ≡ says b → a ≡ b

abbrev pub NO_CODE : ℕ
NO_CODE = 1

abbrev pub CUT : ℕ
CUT = 2

abbrev pub OVERLAP : ℕ
OVERLAP = 3

abbrev pub UNKNOWN : ℕ
UNKNOWN = 4

abbrev pub OUT_OF_PLACE : ℕ
OUT_OF_PLACE = 5

abbrev pub SHORT : ℕ
SHORT = 6

abbrev pub MARKER : ℕ
MARKER = 7

-- of Exp-Golomb numbers alone; of fields and slices it has the numbers from 20 on
abbrev pub VALUE : ℕ
VALUE = 8

abbrev pub STUFFING : ℕ
STUFFING = 9

abbrev pub TWICE : ℕ
TWICE = 10

abbrev pub UNENDED : ℕ
UNENDED = 11

abbrev pub FULL : ℕ
FULL = 12

abbrev pub TOO_LONG : ℕ
TOO_LONG = 13

abbrev pub PAYLOAD_OUT : ℕ
PAYLOAD_OUT = 14

abbrev pub BAD_STATE : ℕ
BAD_STATE = 15

abbrev pub NO_ROW : ℕ
NO_ROW = 16

-- "VALUE becomes a number for each field": width and height are the sizes of a sequence header
abbrev pub VALUE_WIDTH : ℕ
VALUE_WIDTH = 20

abbrev pub VALUE_HEIGHT : ℕ
VALUE_HEIGHT = 21

abbrev pub VALUE_CHROMA : ℕ
VALUE_CHROMA = 22

abbrev pub VALUE_PRECISION : ℕ
VALUE_PRECISION = 23

abbrev pub VALUE_ASPECT : ℕ
VALUE_ASPECT = 24

abbrev pub VALUE_RATE : ℕ
VALUE_RATE = 25

abbrev pub VALUE_TRANSFER : ℕ
VALUE_TRANSFER = 26

abbrev pub VALUE_MATRIX : ℕ
VALUE_MATRIX = 27

abbrev pub VALUE_STEREO : ℕ
VALUE_STEREO = 28

abbrev pub VALUE_COPYRIGHT_OWNER : ℕ
VALUE_COPYRIGHT_OWNER = 29

abbrev pub VALUE_COPYRIGHT_NUMBER : ℕ
VALUE_COPYRIGHT_NUMBER = 30

abbrev pub VALUE_SLICE_ORDER : ℕ
VALUE_SLICE_ORDER = 31

abbrev pub VALUE_SLICE_ROW : ℕ
VALUE_SLICE_ROW = 32
