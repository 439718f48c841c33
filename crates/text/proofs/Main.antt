-- What is proved of texts beyond the contracts of the functions.
use Prim.Native.Nat.{ℕ, ◌+◌, ◌*◌, ◌/◌, ◌%◌, ◌^◌, ◌≤◌, ◌<◌}
use mathlib.Core.Path.{◌≡◌, refl}
use mathlib.Core.List.{List, [], ◌∷◌, ◌++◌}
use mathlib.Core.Option.{some}
use lib.IntN.{ℤ, negsuc}
use lib.ListN.{length, take, drop}
use lib.Signed.{mag}
use Rattle.std.specs.Fmt as std
use Rattle.text.specs.Text.{written, digits, decimal, signed, hex_digit, pairs, hex, number_after, hex_value}
use Rattle.text.proofs.PutLaws as law
use Rattle.text.proofs.ReadLaws as proof
use Rattle.text.proofs.SpellingLaws as spelling

-- A text in decimal is read back as its number, and no shorter one is.
pub decimal_reads : (n : ℕ) → n < 2 ^ 64 → number_after 0 (decimal n) ≡ some n
decimal_reads = proof.decimal_reads

pub decimal_shortest : (n : ℕ) → 0 < n → 10 ^ length (decimal n) ≤ n * 10
decimal_shortest = proof.decimal_shortest

-- What `{}` of std writes of a number is this text; mag n and mag (-(n + 1)) are n.
pub printed_decimal : (n : ℕ) → n < 2 ^ 64 → std.decimal n ≡ decimal n
printed_decimal = spelling.printed_decimal

pub printed_signed : (z : ℤ) → mag z < 2 ^ 63 → std.signed_decimal z ≡ signed z
printed_signed = spelling.printed_signed

-- A byte in hexadecimal is read back too.
pub hex_reads : (b : ℕ) → b < 256 → hex_value (hex_digit (b / 16)) * 16 + hex_value (hex_digit (b % 16)) ≡ b
hex_reads = proof.hex_reads

-- A text that fits stands whole where it was put, and the bytes lent are as many as before.
pub written_within : (at : ℕ) (text out : List ℕ) → at + length text ≤ length out → written at text out ≡ take at out ++ text ++ drop (at + length text) out
written_within = proof.written_within

pub length_written : (at : ℕ) (text out : List ℕ) → length (written at text out) ≡ length out
length_written = law.length_written

-- "0", "1009", "-7", "-", "0bf0".
pub examples :
    (decimal 0 ≡ 48 ∷ [])
    × (decimal 1009 ≡ 49 ∷ 48 ∷ 48 ∷ 57 ∷ [])
    × (signed (negsuc 6) ≡ 45 ∷ 55 ∷ [])
    × (hex [] ≡ 45 ∷ [])
    × (hex (11 ∷ 240 ∷ []) ≡ 48 ∷ 98 ∷ 102 ∷ 48 ∷ [])
unfolding digits pairs hex
examples = (refl, refl, refl, refl, refl)
