-- Texts put into lent bytes, and how numbers and bytes are spelt. A text is a list of bytes, in ASCII.
use Rattle.std.specs.Prelude.{ℕ, zero, suc, ◌+◌, ◌-◌, ◌*◌, ◌/◌, ◌%◌, min, ◌≡◌, cond, ◌&&◌, List, [], ◌∷◌, ◌++◌, length, take, drop, ltb, leb, ℤ, pos, negsuc}
use Rattle.std.proofs.Math.Option.{Option, some, none}

-- the bytes lent, with a text from a place on: the bytes before it and after it stay, and what does not fit is cut
unfoldable pub written : ℕ → List ℕ → List ℕ → List ℕ
written at text out = take (length out) (take at out ++ text ++ drop (at + length text) out)

-- the place after a text, or the end where it is cut
abbrev pub after : ℕ → List ℕ → List ℕ → ℕ
after at text out = min (at + length text) (length out)

-- what a function that puts a text answers, and what the bytes lent are then
pub record Put (at : ℕ) (text before : List ℕ) (next : ℕ) (out : List ℕ) : Type 0 where
  pub place : next ≡ after at text before
  pub bytes : out ≡ written at text before

-- a decimal digit
abbrev pub digit : ℕ → ℕ
digit n = 48 + n

-- the decimal digits of a number that has at most so many: those of its tenth, and the last one
unfoldable pub digits : ℕ → ℕ → List ℕ
digits zero n = []
digits (suc most) n = cond (ltb n 10) (digit n ∷ []) (digits most (n / 10) ++ (digit (n % 10) ∷ []))

-- a 64-bit number in decimal: it has at most 20 digits
abbrev pub decimal : ℕ → List ℕ
decimal n = digits 20 n

-- a number with its sign: "-" where it is below 0
abbrev pub signed : ℤ → List ℕ
signed (pos n) = decimal n
signed (negsuc n) = 45 ∷ decimal (suc n)

-- a hexadecimal digit: 0 to 9, then a to f
abbrev pub hex_digit : ℕ → ℕ
hex_digit n = cond (ltb n 10) (48 + n) (87 + n)

-- two digits a byte
unfoldable pub pairs : List ℕ → List ℕ
pairs [] = []
pairs (b ∷ bytes) = hex_digit (b / 16) ∷ hex_digit (b % 16) ∷ pairs bytes

-- bytes in hexadecimal, "-" for none
unfoldable pub hex : List ℕ → List ℕ
hex [] = 45 ∷ []
hex (b ∷ bytes) = pairs (b ∷ bytes)

-- ── read back: the theorems of the front page tie the spelling to these ──

-- the number that decimal digits write after a number; none where a byte is no digit
unfoldable pub number_after : ℕ → List ℕ → Option ℕ
number_after n [] = some n
number_after n (d ∷ text) = cond (leb 48 d && leb d 57) (number_after (n * 10 + (d - 48)) text) none

-- the value of a hexadecimal digit
abbrev pub hex_value : ℕ → ℕ
hex_value d = cond (ltb d 97) (d - 48) (d - 87)
