-- Exp-Golomb numbers: "z zeros, a 1, then z bits of value b; number = 2^z - 1 + b, answered with the place after it".
use Rattle.std.specs.Prelude.{ℕ, ◌+◌, ◌-◌, ◌/◌, ◌%◌, ◌^◌, ◌≤◌, ◌<◌, ◌≡◌, List, [], ◌∷◌, ◌++◌, cond, eqb, ℤ, pos, neg_ℤ, length, drop, replicate, Result, Ok, Err}
use Rattle.answers.specs.Answers.{Outcome, done, refused, VALUE, TOO_LONG}
use Rattle.answers.specs.Missing.{payload_out}
use Rattle.bits.specs.Bits.{bits_in}
use Rattle.bits.specs.declared.ReadError.{ReadError}
use Rattle.bits.specs.declared.ReadError.TheVariants.{Missing, TooWide}
use Rattle.payload.specs.declared.Numbered.{Numbered}
use Rattle.payload.specs.declared.GolombError.{GolombError}
use Rattle.payload.specs.declared.GolombError.TheVariants.{Value, TooLong, PayloadOut}

-- ── how the bits from a place on begin ──

-- with z zeros, a 1, then z bits of value b: a number, and the place after it
pub record Coded (bits : List ℕ) (place : ℕ) (m : Numbered ℕ) : Type 0 where
  pub z : ℕ
  pub b : ℕ
  pub rest : List ℕ
  pub few : z ≤ 31
  pub small : b < 2 ^ z
  pub there : drop place bits ≡ replicate z 0 ++ (1 ∷ (bits_in z b ++ rest))
  pub is : m ≡ record { number = 2 ^ z - 1 + b; next = place + z + 1 + z }

-- with 32 zeros
pub record TooManyZeros (bits : List ℕ) (place : ℕ) : Type 0 where
  pub rest : List ℕ
  pub there : drop place bits ≡ replicate 32 0 ++ rest

-- they end first, and so many are missing: before the 1, which is read bit by bit as the zeros are, one; before the z bits after it,
-- which are one read, z less what is left
pub data EndsFirst (bits : List ℕ) (place : ℕ) : ℕ → Type 0 where
  before_one : (z : ℕ) → z ≤ 31 → drop place bits ≡ replicate z 0 → EndsFirst bits place 1
  after_one : (z : ℕ) (rest : List ℕ) → z ≤ 31 → drop place bits ≡ replicate z 0 ++ (1 ∷ rest) → length rest < z → EndsFirst bits place (z - length rest)

-- ── signed numbers ──

-- "number n stands for (n + 1)/2 when odd and -(n/2) when even"
unfoldable pub stands_for : ℕ → ℤ
stands_for n = cond (eqb (n % 2) 1) (pos ((n + 1) / 2)) (neg_ℤ (pos (n / 2)))

abbrev pub with_sign : Numbered ℕ → Numbered ℤ
with_sign n = record { number = stands_for n.number; next = n.next }

-- ── the numbers of the answers ──

-- of a refusal
abbrev pub golomb_refused : {A : Type 0} → GolombError → Outcome A
golomb_refused Value = refused VALUE []
golomb_refused TooLong = refused TOO_LONG []
golomb_refused (PayloadOut m) = payload_out m

abbrev pub golomb_says : {A : Type 0} → Result (Numbered A) GolombError → Outcome (Numbered A)
golomb_says (Ok n) = done n
golomb_says (Err why) = golomb_refused why

-- of the bits after the 1 that are not there; they are never too many
abbrev pub read_refused : ReadError → GolombError
read_refused (Missing m) = PayloadOut m
read_refused TooWide = Value
