-- The bits of bytes, most significant first ("Layouts", "Escape removal"), the one read of them, and their packing.
use Rattle.std.specs.Prelude.{ℕ, zero, suc, ◌+◌, ◌-◌, ◌*◌, ◌/◌, ◌%◌, ◌^◌, List, [], ◌∷◌, ◌++◌, cond, take, drop, leb, eqb, Option, Some, None, Result, Ok, Err}
use Rattle.bits.specs.declared.ReadError.{ReadError}
use Rattle.bits.specs.declared.ReadError.TheVariants.{Missing, TooWide}

-- the last `width` bits of the number n, most significant first
unfoldable pub bits_in : ℕ → ℕ → List ℕ
bits_in zero n = []
bits_in (suc width) n = (n / 2 ^ width % 2) ∷ bits_in width n

-- the bits of bytes: eight for each
unfoldable pub bits_of : List ℕ → List ℕ
bits_of [] = []
bits_of (byte ∷ bytes) = bits_in 8 byte ++ bits_of bytes

-- a payload's bits: the first `count`, or all that the bytes hold where that is fewer
abbrev pub payload : List ℕ → ℕ → List ℕ
payload bytes count = take count (bits_of bytes)

-- the bit at a place: None where the list ends first
unfoldable pub bit_at : List ℕ → ℕ → Option ℕ
bit_at [] place = None
bit_at (b ∷ bits) zero = Some b
bit_at (b ∷ bits) (suc place) = bit_at bits place

-- `width` bits from the head of a list, after bits that write `value`; where the list ends first, how many of them are missing
unfoldable pub read_on : ℕ → ℕ → List ℕ → Result ℕ ℕ
read_on value zero bits = Ok value
read_on value (suc width) [] = Err (suc width)
read_on value (suc width) (b ∷ bits) = read_on (value * 2 + b) width bits

-- The one read: the number in `width` bits from a place on, or how many of them are missing. A place past the end counts as the end.
unfoldable pub read_at : List ℕ → ℕ → ℕ → Result ℕ ℕ
read_at bits place width = read_on 0 width (drop place bits)

-- What a read gives its asker: `found` of its value, or the asker's own refusal of how many bits are missing.
abbrev pub read_or : {A : Type 0} → (ℕ → A) → (ℕ → A) → Result ℕ ℕ → A
read_or found lacks (Ok n) = found n
read_or found lacks (Err m) = lacks m

abbrev pub read_says : Result ℕ ℕ → Result ℕ ReadError
read_says (Ok n) = Ok n
read_says (Err m) = Err (Missing m)

-- A number of 32 bits holds no wider read: it is asked in error, and no refusal of document 01.
unfoldable pub read_within : List ℕ → ℕ → ℕ → Result ℕ ReadError
read_within bits place width = cond (leb width 32) (read_says (read_at bits place width)) (Err TooWide)

-- bits packed into bytes, after `k` bits of a byte that write `value`; the last byte is filled with zeros
unfoldable pub pack_on : ℕ → ℕ → List ℕ → List ℕ
pack_on value zero [] = []
pack_on value (suc k) [] = (value * 2 ^ (7 - k)) ∷ []
pack_on value k (b ∷ bits) = cond (eqb k 7) ((value * 2 + b) ∷ pack_on 0 0 bits) (pack_on (value * 2 + b) (k + 1) bits)

abbrev pub pack : List ℕ → List ℕ
pack bits = pack_on 0 0 bits
