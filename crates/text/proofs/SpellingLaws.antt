-- How numbers and bytes are spelt, digit after digit.
use Prim.Native.Nat.{ℕ, zero, suc, ◌+◌, ◌/◌, ◌%◌, ◌^◌, ◌≤◌, ◌<◌}
use mathlib.Core.Path.{◌≡◌, refl, sym, ap, ◌∙◌}
use mathlib.Core.Bool.{Bool, true, false, true≢false}
use mathlib.Core.List.{List, [], ◌∷◌, ◌++◌}
use native.Mathlib.Nat.{pow-suc}
use native.Mathlib.Numerals.{add-one}
use native.Mathlib.Omega.{arith}
use borrow.Author.Tests.{lt-ltb, le-ltb, ltb-true}
use lib.IntN.{ℤ, pos, negsuc, nat_abs}
use lib.ListN.{length, get_or, take}
use lib.Seq.{take-suc, take_all}
use lib.Signed.{lt_z, mag}
use mir.Facts.{to_z-of_z}
use mir.Syntax.{w32}
use mir.Val.{SFits, to_z, of_z}
use Rattle.std.proofs.lemmas.Fmt.{decimal_by_steps}
use Rattle.std.specs.Fmt as std
use Rattle.text.specs.Text.{digit, digits, decimal, signed, hex_digit, pairs, hex}
use Rattle.text.proofs.PutLaws.{by_order}

-- ── decimal ──

pub digits_one : (most n : ℕ) → n < 10 → digits (suc most) n ≡ digit n ∷ []
unfolding digits
digits_one most n h = rw (lt-ltb n 10 h) refl

pub digits_more : (most n : ℕ) → 10 ≤ n → digits (suc most) n ≡ digits most (n / 10) ++ (digit (n % 10) ∷ [])
unfolding digits
digits_more most n h = rw (le-ltb n 10 h) refl

-- a number that has no more digits is spelt the same where more are allowed
enough : (most n : ℕ) → n < 10 ^ suc most → digits (suc (suc most)) n ≡ digits (suc most) n
enough zero n h = digits_one 1 n (omega arith) ∙ sym (digits_one 0 n (omega arith))
enough (suc most) n h =
    let p = pow-suc 10 (suc most) in
    by_order n 10
    (λ l. digits_one (suc (suc most)) n l ∙ sym (digits_one (suc most) n l))
    (λ l.
    digits_more (suc (suc most)) n l
    ∙ ap (λ (t : List ℕ). t ++ (digit (n % 10) ∷ [])) (enough most (n / 10) (omega arith))
    ∙ sym (digits_more (suc most) n l))

pub decimal_one : (n : ℕ) → n < 10 → decimal n ≡ digit (n % 10) ∷ []
decimal_one n h = let e : n % 10 ≡ n = omega arith in rw e (digits_one 19 n h)

pub decimal_more : (n : ℕ) → 10 ≤ n → n < 2 ^ 64 → decimal n ≡ decimal (n / 10) ++ (digit (n % 10) ∷ [])
decimal_more n l h =
    digits_more 19 n l ∙ ap (λ (t : List ℕ). t ++ (digit (n % 10) ∷ [])) (sym (enough 18 (n / 10) (omega arith)))

-- ── signs ──

-- a 32-bit number's sign, tested as the code tests it
below_zero : {t : Bool} (z : ℤ) → SFits w32 z → lt_z (to_z w32 (of_z w32 z)) (pos 0) ≡ t → lt_z z (pos 0) ≡ t
below_zero z f e = ap (λ (y : ℤ). lt_z y (pos 0)) (sym (to_z-of_z {w = w32} {z = z} f)) ∙ e

minus : (z : ℤ) → lt_z z (pos 0) ≡ true → 45 ∷ decimal (nat_abs z) ≡ signed z
minus (pos n) t = absurd (let k = ltb-true n 0 t in omega arith)
minus (negsuc n) t = refl

plain : (z : ℤ) → lt_z z (pos 0) ≡ false → decimal (nat_abs z) ≡ signed z
plain (pos n) t = refl
plain (negsuc n) t = absurd (true≢false t)

module _ (z : ℤ) (fits : SFits w32 z) (n : ℕ) (size : n ≡ nat_abs (to_z w32 (of_z w32 z))) where
  same : n ≡ nat_abs z
  same = size ∙ ap nat_abs (to_z-of_z {w = w32} {z = z} fits)

  pub signed_minus : lt_z (to_z w32 (of_z w32 z)) (pos 0) ≡ true → 45 ∷ decimal n ≡ signed z
  signed_minus t = ap (λ (k : ℕ). 45 ∷ decimal k) same ∙ minus z (below_zero z fits t)

  pub signed_plain : lt_z (to_z w32 (of_z w32 z)) (pos 0) ≡ false → decimal n ≡ signed z
  signed_plain t = ap decimal same ∙ plain z (below_zero z fits t)

-- ── what std writes ──

pub printed_decimal : (n : ℕ) → n < 2 ^ 64 → std.decimal n ≡ decimal n
printed_decimal n h = decimal_by_steps (λ (m : ℕ) (text : List ℕ). m < 2 ^ 64 → text ≡ decimal m) one more n h h
  where
    one : (m : ℕ) → m < 10 → m < 2 ^ 64 → (48 + m) ∷ [] ≡ decimal m
    one m l f = sym (digits_one 19 m l)

    more : (m : ℕ) (text : List ℕ) → 10 ≤ m → (m / 10 < 2 ^ 64 → text ≡ decimal (m / 10)) → m < 2 ^ 64 → text ++ ((48 + m % 10) ∷ []) ≡ decimal m
    more m text l tenth f = ap (λ (t : List ℕ). t ++ (digit (m % 10) ∷ [])) (tenth (omega arith)) ∙ sym (decimal_more m l f)

pub printed_signed : (z : ℤ) → mag z < 2 ^ 63 → std.signed_decimal z ≡ signed z
printed_signed (pos n) h = printed_decimal n (omega arith)
printed_signed (negsuc n) h = ap (λ (t : List ℕ). 45 ∷ t) (printed_decimal (suc n) (omega arith))

-- ── hexadecimal ──

pairs_append : (a b : List ℕ) → pairs (a ++ b) ≡ pairs a ++ pairs b
unfolding pairs
pairs_append [] b = refl
pairs_append (x ∷ a) b = ap (λ (t : List ℕ). hex_digit (x / 16) ∷ hex_digit (x % 16) ∷ t) (pairs_append a b)

pub pairs_none : pairs [] ≡ []
unfolding pairs
pairs_none = refl

pub pairs_more : (s : List ℕ) (k : ℕ) → k < length s →
    pairs (take (k + 1) s) ≡ pairs (take k s) ++ (hex_digit (get_or s k 0 / 16) ∷ hex_digit (get_or s k 0 % 16) ∷ [])
unfolding pairs
pairs_more s k h = rw (add-one, take-suc s k 0 h) (pairs_append (take k s) (get_or s k 0 ∷ []))

pub hex_none : (s : List ℕ) → length s ≡ 0 → hex s ≡ 45 ∷ []
unfolding hex
hex_none [] h = refl
hex_none (b ∷ s) h = absurd (omega arith)

pub hex_some : (s : List ℕ) (k : ℕ) → (length s ≡ 0 → ⊥) → length s ≤ k → hex s ≡ pairs (take k s)
unfolding hex
hex_some [] k n h = absurd (n refl)
hex_some (b ∷ s) k n h = rw (take_all k (b ∷ s) h) refl
