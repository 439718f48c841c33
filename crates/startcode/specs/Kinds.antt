-- "Code bytes: 00 to AF slice; B0 sequence header; ..": the kind of a unit by its code byte.
use Rattle.std.specs.Prelude.{ℕ, List, [], ◌∷◌, Option, Some, None, cond, ◌&&◌, leb}
use Rattle.answers.specs.Answers.{Outcome, done, refused, UNKNOWN}
use Rattle.startcode.specs.declared.Kind.{Kind}
use Rattle.startcode.specs.declared.Kind.TheVariants.{Slice, SequenceHeader, SequenceEnd, UserData, IPicture, Extension, PBPicture, EditCode}

-- the code bytes of a kind
pub record Codes : Type 0 where
  pub first : ℕ
  pub last : ℕ
  pub kind : Kind

abbrev pub codes : ℕ → ℕ → Kind → Codes
codes a b k = record { first = a; last = b; kind = k }

abbrev pub code : ℕ → Kind → Codes
code a k = codes a a k

abbrev pub kinds : List Codes
kinds =
    codes 0x00 0xAF Slice
    ∷ code 0xB0 SequenceHeader
    ∷ code 0xB1 SequenceEnd
    ∷ code 0xB2 UserData
    ∷ code 0xB3 IPicture
    ∷ code 0xB5 Extension
    ∷ code 0xB6 PBPicture
    ∷ code 0xB7 EditCode
    ∷ []

-- the kind whose codes hold the byte, or UNKNOWN
abbrev pub kind_in : List Codes → ℕ → Outcome Kind
kind_in [] byte = refused UNKNOWN []
kind_in (c ∷ cs) byte = cond (leb c.first byte && leb byte c.last) (done c.kind) (kind_in cs byte)

unfoldable pub kind_of : ℕ → Outcome Kind
kind_of byte = kind_in kinds byte

-- the numbers of `kind_of`'s answers
abbrev pub kind_says : Option Kind → Outcome Kind
kind_says (Some k) = done k
kind_says None = refused UNKNOWN []
