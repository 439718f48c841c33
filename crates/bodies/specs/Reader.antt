-- Reading sequence headers and extensions, as a computation: the values of a body by its layout, then the record that they make.
use Rattle.std.specs.Prelude.{ℕ, List, Bool, false, cond, ◌&&◌, ◌||◌, eqb, Result, Ok, Err}
use Rattle.std.specs.Prelude as std
use Rattle.std.proofs.Math.Option.{Option, none, some}
use Rattle.answers.specs.Answers.{Outcome}
use Rattle.answers.specs.Results.{◌>>=◌}
use Rattle.bits.specs.Bits.{bits_of, bit_at, read_at}
use Rattle.layout.specs.Reader.{Reading, ◌>>◌, refuse_if, read_value, short, reading}
use Rattle.layout.specs.declared.Layout.{Layout}
use Rattle.layout.specs.declared.Layout.TheVariants.{Header, Display, Coloured, Copyright}
use Rattle.layout.specs.declared.Fault.TheVariants.{Short}
use Rattle.bodies.specs.Records.{header_record, plain_record, coloured_record, copyright_record}
use Rattle.bodies.specs.Answers.{answer_of}
use Rattle.bodies.specs.declared.ExtensionBody.{ExtensionBody}
use Rattle.bodies.specs.declared.ExtensionBody.TheVariants as extension
use Rattle.bodies.specs.declared.SequenceHeader.{SequenceHeader}
use Rattle.bodies.specs.declared.Scope.{Scope}
use Rattle.bodies.specs.declared.Scope.TheVariants as scope

-- values that are not there are SHORT
abbrev pub recorded : {A : Type 0} → Option A → Reading A
recorded none = Err Short
recorded (some a) = Ok a

-- the record that a body's values make, or what is wrong
unfoldable pub record_of : {A : Type 0} → Layout → (List ℕ → Option A) → List ℕ → Reading A
record_of layout make body = do
  vs ← reading layout body
  recorded (make vs)

-- ── sequence header ──

abbrev pub header_result : List ℕ → Reading SequenceHeader
header_result body = record_of Header header_record body

-- what reading a sequence header's body answers
unfoldable pub header_of : List ℕ → Outcome SequenceHeader
header_of body = answer_of (header_result body)

-- ── extensions ──

-- a display extension where colour is not given
unfoldable pub plain_of : List ℕ → Reading ExtensionBody
plain_of body = do
  d ← record_of Display plain_record body
  Ok (extension.Display d)

-- a display extension where colour is given
unfoldable pub coloured_of : List ℕ → Reading ExtensionBody
coloured_of body = do
  d ← record_of Coloured coloured_record body
  Ok (extension.Display d)

-- a copyright extension
unfoldable pub copyright_of : List ℕ → Reading ExtensionBody
copyright_of body = do
  c ← record_of Copyright copyright_record body
  Ok (extension.Copyright c)

-- a bit that is there and is 1
abbrev pub is_one : std.Option ℕ → Bool
is_one (std.Some b) = eqb b 1
is_one std.None = false

-- a bit that is not there is SHORT
abbrev pub read_bit : std.Option ℕ → Reading ℕ
read_bit (std.Some b) = Ok b
read_bit std.None = Err Short

-- SHORT of a display extension: fewer than 6 bytes, or fewer than 9 with colour given, which is bit 8
unfoldable pub display_short : List ℕ → Bool
display_short body = short Display body || (is_one (bit_at (bits_of body) 8) && short Coloured body)

-- a display extension: SHORT, then the layout that colour given says
unfoldable pub display_of : List ℕ → Reading ExtensionBody
display_of body = do
  refuse_if (display_short body) Short
  colour ← read_bit (bit_at (bits_of body) 8)
  cond (eqb colour 1) (coloured_of body) (plain_of body)

-- An extension's number is its body's first four bits.
abbrev pub number_of : List ℕ → Result ℕ ℕ
number_of body = read_at (bits_of body) 0 4

-- Number 2 in a group's head is the display extension; after a picture header it is opaque.
abbrev pub not_copyright : Scope → List ℕ → ℕ → Reading ExtensionBody
not_copyright scope.Head body number = cond (eqb number 2) (display_of body) (Ok (extension.Opaque number))
not_copyright scope.Picture body number = Ok (extension.Opaque number)

-- Number 4 anywhere is copyright. Any other extension is opaque.
unfoldable pub by_number : Scope → List ℕ → ℕ → Reading ExtensionBody
by_number scope body number = cond (eqb number 4) (copyright_of body) (not_copyright scope body number)

-- an extension by its number; an empty body has none, and is SHORT
unfoldable pub extension_result : Scope → List ℕ → Reading ExtensionBody
extension_result scope body = do
  number ← read_value (number_of body)
  by_number scope body number

-- what reading an extension's body answers
unfoldable pub extension_of : Scope → List ℕ → Outcome ExtensionBody
extension_of scope body = answer_of (extension_result scope body)
