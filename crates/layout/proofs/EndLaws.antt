-- Stuffing: as bits, and as bytes.
use Rattle.std.proofs.Common.{Ok}
use Prim.Native.Nat.{ℕ, zero, suc, ◌+◌, ◌*◌, ◌/◌, ◌%◌, ◌^◌, ◌<◌}
use mathlib.Core.Path.{◌≡◌, refl, sym, ap, ◌∙◌}
use mathlib.Core.List.{List, [], ◌∷◌, ◌++◌}
use mathlib.Core.Bool.{Bool, true, false, ◌&&◌, and_assoc}
use native.Mathlib.Omega.{arith}
use native.Mathlib.Numerals.{add-one}
use borrow.Author.Tests.{eqb-true, eq-eqb}
use lib.Dec.{eqb}
use native.Mathlib.Nat.{div-eq_of_lt}
use lib.ListN.{length, get_or, take, drop, replicate}
use lib.Seq.{take_all, drop-nil, drop-cons, drop-append-add}
use Rattle.bits.specs.Lists.{All}
use Rattle.answers.proofs.ResultLaws.{ok_same}
use Rattle.bits.specs.Bits.{bits_in, bits_of, read_on}
use Rattle.bits.proofs.ListLaws.{all_drop}
use Rattle.std.proofs.lemmas.Bool.{and_parts}
use Rattle.bits.proofs.BitLaws.{length_in, reads_written}
use Rattle.layout.specs.Reader.{all_zero, stuffing}

abbrev pub Byte : ℕ → Type 0
Byte x = x < 256

-- two tests that hold together are equal
same : (s t : Bool) → (s ≡ true → t ≡ true) → (t ≡ true → s ≡ true) → s ≡ t
same true t f g = sym (f refl)
same false true f g = g refl
same false false f g = refl

zero_append : (l m : List ℕ) → all_zero (l ++ m) ≡ all_zero l && all_zero m
zero_append [] m = refl
zero_append (x ∷ l) m = ap (λ (t : Bool). eqb x 0 && t) (zero_append l m) ∙ sym (and_assoc (eqb x 0) (all_zero l) (all_zero m))

stuffing_append : (x : ℕ) (l m : List ℕ) → stuffing ((x ∷ l) ++ m) ≡ stuffing (x ∷ l) && all_zero m
stuffing_append x l m = ap (λ (t : Bool). eqb x 1 && t) (zero_append l m) ∙ sym (and_assoc (eqb x 1) (all_zero l) (all_zero m))

-- zeros alone
pub zeros_are : (l : List ℕ) → all_zero l ≡ true → l ≡ replicate (length l) 0
zeros_are [] e = refl
zeros_are (b ∷ l) e =
    let h = and_parts (eqb b 0) (all_zero l) e in
    rw (eqb-true b 0 h.0) (ap (λ (t : List ℕ). 0 ∷ t) (zeros_are l h.1))

pub are_zeros : (n : ℕ) → all_zero (replicate n 0) ≡ true
are_zeros zero = refl
are_zeros (suc n) = are_zeros n

-- a number that fits is known by its bits
reads_itself : (w n : ℕ) → n < 2 ^ w → read_on 0 w (bits_in w n) ≡ Ok n
reads_itself w n h =
    let t : take w (bits_in w n) ≡ bits_in w n = take_all w (bits_in w n) (let l = length_in w n in omega arith) in
    reads_written 0 w n (bits_in w n) t (div-eq_of_lt h)

same_bits : (w m n : ℕ) → m < 2 ^ w → n < 2 ^ w → bits_in w m ≡ bits_in w n → m ≡ n
same_bits w m n h k e =
    ok_same (sym (reads_itself w m h) ∙ ap (read_on 0 w) e ∙ reads_itself w n k)

zero_byte : (x : ℕ) → x < 256 → all_zero (bits_in 8 x) ≡ eqb x 0
unfolding bits_in
zero_byte x h =
    same (all_zero (bits_in 8 x)) (eqb x 0)
    (λ e. eq-eqb x 0 (same_bits 8 x 0 h (omega arith) (zeros_are (bits_in 8 x) e)))
    (λ e. let z = eqb-true x 0 e in rw z)

stuffed_byte : (x : ℕ) → x < 256 → stuffing (bits_in 8 x) ≡ eqb x 128
unfolding bits_in
stuffed_byte x h =
    same (stuffing (bits_in 8 x)) (eqb x 128)
    (λ e.
    let p = and_parts (eqb (x / 2 ^ 7 % 2) 1) (all_zero (bits_in 7 x)) e in
    let o = eqb-true (x / 2 ^ 7 % 2) 1 p.0 in
    let z = zeros_are (bits_in 7 x) p.1 in
    let b : bits_in 8 x ≡ 1 ∷ replicate 7 0 = ap (λ (b : ℕ). b ∷ bits_in 7 x) o ∙ ap (λ (l : List ℕ). 1 ∷ l) z in
    eq-eqb x 128 (same_bits 8 x 128 h (omega arith) b))
    (λ e. let z = eqb-true x 128 e in rw z)

zero_bits : (b : List ℕ) → All Byte b → all_zero (bits_of b) ≡ all_zero b
unfolding bits_of
zero_bits [] h = refl
zero_bits (x ∷ b) h = zero_append (bits_in 8 x) (bits_of b) ∙ rw (zero_byte x h.0, zero_bits b h.1)

stuffed_bits : (x : ℕ) (b : List ℕ) → x < 256 → All Byte b → stuffing (bits_of (x ∷ b)) ≡ eqb x 128 && all_zero b
unfolding bits_of bits_in
stuffed_bits x b h k = stuffing_append (x / 2 ^ 7 % 2) (bits_in 7 x) (bits_of b) ∙ rw (stuffed_byte x h, zero_bits b k)

pub drop_bits : (k : ℕ) (b : List ℕ) → drop (k * 8) (bits_of b) ≡ bits_of (drop k b)
unfolding bits_of
drop_bits zero b = refl
drop_bits (suc k) [] = drop-nil (suc k * 8)
drop_bits (suc k) (x ∷ b) =
    let e : suc k * 8 ≡ length (bits_in 8 x) + k * 8 = let l = length_in 8 x in omega arith in
    rw e (drop-append-add (bits_in 8 x) (bits_of b) (k * 8) ∙ drop_bits k b)

all_bytes : (b : List ℕ) → ((i : ℕ) → get_or b i 0 < 256) → All Byte b
all_bytes [] f = tt
all_bytes (x ∷ b) f = (f 0, all_bytes b (λ i. f (suc i)))

-- stuffing after k whole bytes: byte k is 80, and only zero bytes follow
pub stuffed_at : (b : List ℕ) (k : ℕ) → k < length b → ((i : ℕ) → get_or b i 0 < 256) →
    stuffing (drop (k * 8) (bits_of b)) ≡ eqb (get_or b k 0) 128 && all_zero (drop (k + 1) b)
stuffed_at b k h f =
    ap stuffing (drop_bits k b ∙ ap bits_of (drop-cons b k 0 h))
    ∙ stuffed_bits (get_or b k 0) (drop (suc k) b) (f k) (all_drop Byte (suc k) b (all_bytes b f))
    ∙ rw add-one
