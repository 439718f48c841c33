-- Document 01, "Layouts": the fields of each layout, in its order, most significant bit first.
use Rattle.std.specs.Prelude.{ℕ, ◌+◌, ◌≤◌, ◌≡◌, ◌≢◌, List, [], ◌∷◌, ◌++◌}
use Rattle.layout.specs.declared.Name.{Name}
use Rattle.layout.specs.declared.Name.TheVariants.{Profile, Level, Progressive, HorizontalSize, VerticalSize, ChromaFormat, Precision, Aspect, FrameRate, BitRateLow, BitRateHigh, LowDelay, BufferSize, Reserved, Marker, Number, Format, Range, ColourGiven, Primaries, Transfer, Matrix, Width, Height, Stereo, Flag, Owner, Original, PartOne, PartTwo, PartThree}
use Rattle.layout.specs.declared.JudgedField.{JudgedField}
use Rattle.layout.specs.declared.JudgedField.TheVariants as value
use Rattle.layout.specs.declared.Values.{Values}
use Rattle.layout.specs.declared.Values.TheVariants.{Only, But, Within, WithinBut}
use Rattle.layout.specs.declared.Rule.{Rule}
use Rattle.layout.specs.declared.Rule.TheVariants.{Any, Set, Judged}
use Rattle.layout.specs.declared.Field.{Field}
use Rattle.layout.specs.declared.Fault.{Fault}
use Rattle.layout.specs.declared.Fault.TheVariants as fault
use Rattle.layout.specs.declared.Layout.{Layout}
use Rattle.layout.specs.declared.Layout.TheVariants.{Header, Display, Coloured, Copyright}

-- ── fields ──

-- a field: its name, its width in bits, and what is asked of it
abbrev pub field : Name → ℕ → Rule → Field
field name width rule = record { 0 = name; 1 = width; 2 = rule }

abbrev pub name_of : Field → Name
name_of f = f.0

abbrev pub width_of : Field → ℕ
width_of f = f.1

abbrev pub rule_of : Field → Rule
rule_of f = f.2

-- the values that are not ruled out
abbrev pub Allowed : Values → ℕ → Type 0
Allowed (Only one) v = v ≡ one
Allowed (But one) v = v ≢ one
Allowed (Within least greatest) v = (least ≤ v) × (v ≤ greatest)
Allowed (WithinBut least greatest one) v = (least ≤ v) × (v ≤ greatest) × (v ≢ one)

-- a value with which a rule is kept
abbrev pub Keeps : Rule → ℕ → Type 0
Keeps Any v = Unit {0}
Keeps Set v = v ≡ 1
Keeps (Judged field values) v = Allowed values v

-- A rule that is broken, by a field that begins at bit `at`: MARKER of a marker, VALUE of any other, each with that bit. A field of which
-- nothing is asked is never refused.
abbrev pub Wrong : Rule → ℕ → ℕ → Fault → Type 0
Wrong Any v at why = ⊥
Wrong Set v at why = (v ≢ 1) × (why ≡ fault.Marker at)
Wrong (Judged field values) v at why = (¬ Allowed values v) × (why ≡ fault.Value field at)

-- ── layouts ──

-- a marker bit is 1
abbrev pub marker : Field
marker = field Marker 1 Set

-- Sequence header. VALUE: a size of 0; chroma other than 1 or 2; precision other than 1; aspect outside 1 to 4; rate outside 1 to 8.
abbrev pub header_fields : List Field
header_fields =
    field Profile 8 Any
    ∷ field Level 8 Any
    ∷ field Progressive 1 Any
    ∷ field HorizontalSize 14 (Judged value.Width (But 0))
    ∷ field VerticalSize 14 (Judged value.Height (But 0))
    ∷ field ChromaFormat 2 (Judged value.Chroma (Within 1 2))
    ∷ field Precision 3 (Judged value.Precision (Only 1))
    ∷ field Aspect 4 (Judged value.Aspect (Within 1 4))
    ∷ field FrameRate 4 (Judged value.Rate (Within 1 8))
    ∷ field BitRateLow 18 Any
    ∷ marker
    ∷ field BitRateHigh 12 Any
    ∷ field LowDelay 1 Any
    ∷ marker
    ∷ field BufferSize 18 Any
    ∷ field Reserved 3 Any
    ∷ []

-- Display extension, where colour is not given. VALUE: stereo 3. Number 2 and colour given 0 choose this layout, and are not judged in it.
abbrev pub display_fields : List Field
display_fields =
    field Number 4 Any
    ∷ field Format 3 Any
    ∷ field Range 1 Any
    ∷ field ColourGiven 1 Any
    ∷ field Width 14 Any
    ∷ marker
    ∷ field Height 14 Any
    ∷ field Stereo 2 (Judged value.Stereo (But 3))
    ∷ []

-- Display extension, where colour is given, which chooses this layout. VALUE: transfer 0, 3 or above 10; matrix 0, 3 or above 7; stereo 3.
abbrev pub coloured_fields : List Field
coloured_fields =
    field Number 4 Any
    ∷ field Format 3 Any
    ∷ field Range 1 Any
    ∷ field ColourGiven 1 Any
    ∷ field Primaries 8 Any
    ∷ field Transfer 8 (Judged value.Transfer (WithinBut 1 10 3))
    ∷ field Matrix 8 (Judged value.Matrix (WithinBut 1 7 3))
    ∷ field Width 14 Any
    ∷ marker
    ∷ field Height 14 Any
    ∷ field Stereo 2 (Judged value.Stereo (But 3))
    ∷ []

-- Copyright extension. Number 4 chooses this layout.
abbrev pub copyright_fields : List Field
copyright_fields =
    field Number 4 Any
    ∷ field Flag 1 Any
    ∷ field Owner 8 Any
    ∷ field Original 1 Any
    ∷ field Reserved 7 Any
    ∷ marker
    ∷ field PartOne 20 Any
    ∷ marker
    ∷ field PartTwo 22 Any
    ∷ marker
    ∷ field PartThree 22 Any
    ∷ []

unfoldable pub fields : Layout → List Field
fields Header = header_fields
fields Display = display_fields
fields Coloured = coloured_fields
fields Copyright = copyright_fields

-- the bits that fields take: 112, 40, 64 and 88
abbrev pub bit_count : List Field → ℕ
bit_count [] = 0
bit_count (f ∷ fs) = width_of f + bit_count fs

-- the field with this name begins at this bit: the sum of the widths before it
pub record Begins (layout : Layout) (name : Name) (at : ℕ) : Type 0 where
  pub before : List Field
  pub it : Field
  pub after : List Field
  pub all : fields layout ≡ before ++ (it ∷ after)
  pub named : name_of it ≡ name
  pub sum : at ≡ bit_count before

-- the field whose first bit is the place of a value that is refused: "part one for the copyright number"
unfoldable pub placed_at : JudgedField → Name
placed_at value.Width = HorizontalSize
placed_at value.Height = VerticalSize
placed_at value.Chroma = ChromaFormat
placed_at value.Precision = Precision
placed_at value.Aspect = Aspect
placed_at value.Rate = FrameRate
placed_at value.Transfer = Transfer
placed_at value.Matrix = Matrix
placed_at value.Stereo = Stereo
placed_at value.CopyrightOwner = Owner
placed_at value.CopyrightNumber = PartOne

-- the bytes asked for: the fields and the stuffing bit
unfoldable pub least_bytes : Layout → ℕ
least_bytes Header = 15
least_bytes Display = 6
least_bytes Coloured = 9
least_bytes Copyright = 12
