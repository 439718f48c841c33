-- The laws of packing: one bit more, many, and that nothing is lost.
use Prim.Native.Nat.{ℕ, zero, suc, ◌+◌, ◌-◌, ◌*◌, ◌/◌, ◌%◌, ◌^◌, ◌<◌}
use mathlib.Core.Path.{◌≡◌, refl, sym, ap, ◌∙◌}
use mathlib.Core.List.{List, [], ◌∷◌, ◌++◌, append_assoc, append-nil}
use native.Mathlib.Omega.{arith}
use native.Mathlib.Numerals.{add-one}
use native.Mathlib.Nat.{add-mul, mul_assoc, pow-succ'}
use borrow.Author.Tests.{eq-eqb, ne_eqb, eqb-true, eqb-false}
use lib.Dec.{eqb}
use lib.ListN.{length, take, length-take}
use lib.Pow.{shl-shr, shr-shr, mod-pow-add}
use lib.Seq.{take_at, take-append-add, take-append-le}
use Rattle.bits.specs.Lists.{All}
use Rattle.bits.specs.Bits.{bits_in, bits_of, payload, pack_on, pack}
use Rattle.bits.proofs.TestLaws.{by_test}
use Rattle.bits.proofs.BitLaws.{Binary, bits_append, length_in, in_append, in_snoc}

-- ── one bit more ──

pub pack_more : (value k b : ℕ) (l : List ℕ) → (k ≡ 7 → ⊥) → pack_on value k (b ∷ l) ≡ pack_on (value * 2 + b) (k + 1) l
unfolding pack_on
pack_more value k b l h = simp (ne_eqb k 7 h)

pub pack_full : (value k b : ℕ) (l : List ℕ) → k ≡ 7 → pack_on value k (b ∷ l) ≡ (value * 2 + b) ∷ pack_on 0 0 l
unfolding pack_on
pack_full value k b l h = simp (eq-eqb k 7 h)

pub pack_last : (value k : ℕ) → (k ≡ 0 → ⊥) → pack_on value k [] ≡ (value * 2 ^ (8 - k)) ∷ []
unfolding pack_on
pack_last value zero h = absurd (h refl)
pack_last value (suc k) h = let e : 8 - suc k ≡ 7 - k = omega arith in rw e

-- ── many bits more: the last of a number ──

-- one bit of it goes before its last m
shift_in : (value n m : ℕ) → (value * 2 + n / 2 ^ m % 2) * 2 ^ m + n % 2 ^ m ≡ value * 2 ^ suc m + n % 2 ^ suc m
shift_in value n m =
    let e : suc m ≡ 1 + m = omega arith in
    let f : n % 2 ^ suc m ≡ (n / 2 ^ m % 2) * 2 ^ m + n % 2 ^ m = rw e (mod-pow-add n 1 m) in
    let g : 2 ^ suc m ≡ 2 * 2 ^ m = pow-succ' 2 m in
    let h : value * 2 ^ suc m ≡ value * 2 * 2 ^ m = rw g (sym (mul_assoc value 2 (2 ^ m))) in
    let d = add-mul (value * 2) (n / 2 ^ m % 2) (2 ^ m) in
    omega arith

-- they do not fill the byte
pub pack_few : (m value k n : ℕ) (rest : List ℕ) → k + m < 8 → pack_on value k (bits_in m n ++ rest) ≡ pack_on (value * 2 ^ m + n % 2 ^ m) (k + m) rest
unfolding bits_in
pack_few zero value k n rest h =
    let e : value * 2 ^ 0 + n % 2 ^ 0 ≡ value = omega arith in
    let f : k + 0 ≡ k = omega arith in
    rw (e, f)
pack_few (suc m) value k n rest h =
    let f : k + suc m ≡ k + 1 + m = omega arith in
    pack_more value k (n / 2 ^ m % 2) (bits_in m n ++ rest) (λ y. omega arith) ∙ pack_few m (value * 2 + n / 2 ^ m % 2) (k + 1) n rest (omega arith)
    ∙ rw (f, shift_in value n m)

-- they just fill it
pack_whole : (m value k n : ℕ) (rest : List ℕ) → k + suc m ≡ 8 → pack_on value k (bits_in (suc m) n ++ rest) ≡ (value * 2 ^ suc m + n % 2 ^ suc m) ∷ pack_on 0 0 rest
unfolding bits_in
pack_whole zero value k n rest h =
    let e : value * 2 + n / 2 ^ 0 % 2 ≡ value * 2 ^ 1 + n % 2 ^ 1 = omega arith in
    pack_full value k (n / 2 ^ 0 % 2) rest (omega arith) ∙ rw e
pack_whole (suc m) value k n rest h =
    pack_more value k (n / 2 ^ suc m % 2) (bits_in (suc m) n ++ rest) (λ y. omega arith)
    ∙ pack_whole m (value * 2 + n / 2 ^ suc m % 2) (k + 1) n rest (omega arith) ∙ rw (shift_in value n (suc m))

-- They are c + d, of which c fill the byte and d are left. Where the number's k bits above them are the ones that were there before,
-- the byte is the eight bits above the last d.
pub pack_over : (older k c d n : ℕ) (rest : List ℕ) → k + suc c ≡ 8 → d < 8 → n / 2 ^ (suc c + d) % 2 ^ k ≡ older →
    pack_on older k (bits_in (suc c + d) n ++ rest) ≡ (n / 2 ^ d % 256) ∷ pack_on (n % 2 ^ d) d rest
pack_over older k c d n rest h s e =
    let x = n / 2 ^ d in
    let a : bits_in (suc c + d) n ++ rest ≡ bits_in (suc c) x ++ (bits_in d n ++ rest) = rw (in_append (suc c) d n) (append_assoc (bits_in (suc c) x) (bits_in d n) rest) in
    let z : suc c + d ≡ d + suc c = omega arith in
    let o : x / 2 ^ suc c % 2 ^ k ≡ older = ap (λ (y : ℕ). y % 2 ^ k) (shr-shr n d (suc c)) ∙ (rw z at e) in
    let b : older * 2 ^ suc c + x % 2 ^ suc c ≡ x % 256 = ap (λ (y : ℕ). y * 2 ^ suc c + x % 2 ^ suc c) (sym o) ∙ sym (mod-pow-add x k (suc c)) ∙ ap (λ (y : ℕ). x % 2 ^ y) h in
    let f : 0 * 2 ^ d + n % 2 ^ d ≡ n % 2 ^ d = omega arith in
    let g : 0 + d ≡ d = omega arith in
    ap (pack_on older k) a ∙ pack_whole c older k x (bits_in d n ++ rest) h ∙ rw (b) (ap (λ (l : List ℕ). (x % 256) ∷ l) (pack_few d 0 0 n rest (omega arith) ∙ rw (f, g)))

-- ── nothing is lost ──

in_pushed : (k value b : ℕ) → b < 2 → bits_in (suc k) (value * 2 + b) ≡ bits_in k value ++ (b ∷ [])
in_pushed k value b h =
    let d : (value * 2 + b) / 2 ≡ value = omega arith in
    let m : (value * 2 + b) % 2 ≡ b = omega arith in
    in_snoc k (value * 2 + b) ∙ rw (d, m)

take_in : (a b n : ℕ) → take a (bits_in (a + b) n) ≡ bits_in a (n / 2 ^ b)
take_in a b n = ap (take a) (in_append a b n) ∙ take_at (bits_in a (n / 2 ^ b)) (bits_in b n) a (length_in a _)

in_zero : (n : ℕ) → bits_in 0 n ≡ []
unfolding bits_in
in_zero n = refl

-- what is packed after k bits is those bits and the packed ones, and then the filling
unpacks : (l : List ℕ) (value k : ℕ) → k < 8 → All Binary l → take (k + length l) (bits_of (pack_on value k l)) ≡ bits_in k value ++ l
unfolding bits_of
unpacks [] value zero h a = rw (in_zero value)
unpacks [] value (suc k) h a =
    let e : 8 ≡ suc k + (7 - k) = omega arith in
    let z : suc k + 0 ≡ suc k = omega arith in
    let f : 8 - suc k ≡ 7 - k = omega arith in
    rw (pack_last value (suc k) (λ y. omega arith), z, f, append-nil, append-nil)
    (ap (λ (x : ℕ). take (suc k) (bits_in x (value * 2 ^ (7 - k)))) e ∙ take_in (suc k) (7 - k) (value * 2 ^ (7 - k)) ∙ ap (bits_in (suc k)) (shl-shr value (7 - k)))
unpacks (b ∷ l) value k h a =
    let more : bits_in (suc k) (value * 2 + b) ++ l ≡ bits_in k value ++ (b ∷ l) = rw (in_pushed k value b a.0, append_assoc) in
    by_test (eqb k 7)
    (λ t.
    let seven : k ≡ 7 = eqb-true k 7 t in
    let z : length l ≡ 0 + length l = omega arith in
    let rest : take (length l) (bits_of (pack_on 0 0 l)) ≡ l =
    ap (λ (n : ℕ). take n (bits_of (pack_on 0 0 l))) z ∙ unpacks l 0 0 (omega arith) a.1 ∙ rw (in_zero 0) in
    let byte = value * 2 + b in
    let n : k + suc (length l) ≡ length (bits_in 8 byte) + length l = let i = length_in 8 byte in omega arith in
    rw (pack_full value k b l seven, n) (take-append-add (bits_in 8 byte) (bits_of (pack_on 0 0 l)) (length l) ∙ rw rest (ap (λ (x : ℕ). bits_in (suc x) byte ++ l) (sym seven) ∙ more)))
    (λ f.
    let n : k + suc (length l) ≡ (k + 1) + length l = omega arith in
    let m = eqb-false k 7 f in
    rw (pack_more value k b l m, n) (unpacks l (value * 2 + b) (k + 1) (omega arith) a.1 ∙ rw add-one more))

-- what is packed is read back as it was, whatever bytes follow
pub packed_payload : (l rest : List ℕ) → All Binary l → payload (pack l ++ rest) (length l) ≡ l
packed_payload l rest a =
    let z : length l ≡ 0 + length l = omega arith in
    let e : take (length l) (bits_of (pack l)) ≡ l = ap (λ (n : ℕ). take n (bits_of (pack l))) z ∙ unpacks l 0 0 (omega arith) a ∙ rw (in_zero 0) in
    let n = sym (length-take (length l) (bits_of (pack l))) ∙ ap length e in
    rw (bits_append, take-append-le (length l) (bits_of (pack l)) (bits_of rest) (omega arith)) e
