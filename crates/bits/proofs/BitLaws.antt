-- The laws of bits and of the read, for any width.
use Rattle.std.specs.Prelude.{Option, Some, None, Result, Ok, Err}
use Prim.Native.Nat.{ℕ, zero, suc, ◌+◌, ◌-◌, ◌*◌, ◌/◌, ◌%◌, ◌^◌, ◌≤◌, ◌<◌, min}
use mathlib.Core.Path.{◌≡◌, refl, sym, ap, ◌∙◌}
use mathlib.Core.List.{List, [], ◌∷◌, ◌++◌, append_assoc}
use mathlib.Core.Logic.{◌⊎◌, inl, inr}
use native.Mathlib.Omega.{arith}
use native.Mathlib.Nat.{zero-add, suc-add, mod-lt, pow-suc, pow-succ', div-one, div-div-eq-div-mul}
use borrow.Author.Tests.{le-leb, lt-leb}
use lib.ListN.{length, get_or, take, drop, replicate, length-append, length-take, length-drop, drop_of_length-le, get_or-append}
use lib.Pow.{shr-shr, field, mod-mod-pow}
use lib.Seq.{drop-drop, drop-nil, drop-append-add, take-nil, take-append-add, get_or-take, get_or-append-add}
use Rattle.bits.specs.Lists.{All}
use Rattle.answers.proofs.ResultLaws.{not_ok, not_err, ok_same, err_same}
use Rattle.bits.specs.Bits.{bits_in, bits_of, payload, bit_at, read_on, read_at, read_says, read_within}
use Rattle.bits.specs.declared.ReadError.{ReadError}
use Rattle.bits.specs.declared.ReadError.TheVariants.{Missing, TooWide}
use Rattle.bits.proofs.ListLaws.{all_append, all_drop, all_take, at_head}

-- ── the bits of numbers ──

pub length_in : (w n : ℕ) → length (bits_in w n) ≡ w
unfolding bits_in
length_in zero n = refl
length_in (suc w) n = ap suc (length_in w n)

pub bit_in : (w n j : ℕ) → j < w → get_or (bits_in w n) j 0 ≡ n / 2 ^ (w - 1 - j) % 2
unfolding bits_in
bit_in zero n j h = absurd (omega arith)
bit_in (suc w) n zero h = let e : suc w - 1 - zero ≡ w = omega arith in rw e
bit_in (suc w) n (suc j) h = let e : suc w - 1 - suc j ≡ w - 1 - j = omega arith in rw e (bit_in w n j (omega arith))

-- ── the last bits of a number ──

-- a + b of them are a and then b
pub in_append : (a b n : ℕ) → bits_in (a + b) n ≡ bits_in a (n / 2 ^ b) ++ bits_in b n
unfolding bits_in
in_append zero b n = rw zero-add
in_append (suc a) b n =
    let c : a + b ≡ b + a = omega arith in
    let h : n / 2 ^ (a + b) ≡ n / 2 ^ b / 2 ^ a = ap (λ (x : ℕ). n / 2 ^ x) c ∙ sym (shr-shr n b a) in
    rw (suc-add a b, h, in_append a b n)

-- and the last one is whether it is odd
pub in_snoc : (w n : ℕ) → bits_in (suc w) n ≡ bits_in w (n / 2) ++ (n % 2 ∷ [])
unfolding bits_in
in_snoc zero n = simp div-one
in_snoc (suc w) n = rw (pow-succ' 2 w, ← div-div-eq-div-mul n 2 (2 ^ w)) (ap (λ (l : List ℕ). (n / 2 / 2 ^ w % 2) ∷ l) (in_snoc w n))

-- no others count
pub in_low : (w n : ℕ) → bits_in w (n % 2 ^ w) ≡ bits_in w n
unfolding bits_in
in_low zero n = refl
in_low (suc w) n =
    let e : suc w ≡ 1 + w = omega arith in
    let f = field n 1 w in
    let b : n % 2 ^ suc w / 2 ^ w % 2 ≡ n / 2 ^ w % 2 = rw e (omega arith) in
    let m : n % 2 ^ suc w % 2 ^ w ≡ n % 2 ^ w = rw e (mod-mod-pow n 1 w) in
    rw (b, ← in_low w (n % 2 ^ suc w), m, in_low w n)

-- ── the bits of bytes ──

pub length_bits : (s : List ℕ) → length (bits_of s) ≡ length s * 8
unfolding bits_of
length_bits [] = refl
length_bits (b ∷ s) = let h = length_bits s in let k = length_in 8 b in rw length-append (omega arith)

pub bits_append : (a b : List ℕ) → bits_of (a ++ b) ≡ bits_of a ++ bits_of b
unfolding bits_of
bits_append [] b = refl
bits_append (x ∷ a) b = rw (bits_append a b, append_assoc)

-- the bits of bytes from one on, and of so many of them
pub bits_drop : (n : ℕ) (s : List ℕ) → bits_of (drop n s) ≡ drop (n * 8) (bits_of s)
unfolding bits_of
bits_drop zero s = refl
bits_drop (suc n) [] = rw drop-nil
bits_drop (suc n) (b ∷ s) =
    let e : suc n * 8 ≡ length (bits_in 8 b) + n * 8 = let l = length_in 8 b in omega arith in
    bits_drop n s ∙ rw (e, drop-append-add (bits_in 8 b) (bits_of s) (n * 8))

pub bits_take : (n : ℕ) (s : List ℕ) → bits_of (take n s) ≡ take (n * 8) (bits_of s)
unfolding bits_of
bits_take zero s = refl
bits_take (suc n) [] = rw take-nil
bits_take (suc n) (b ∷ s) =
    let e : suc n * 8 ≡ length (bits_in 8 b) + n * 8 = let l = length_in 8 b in omega arith in
    rw (e, take-append-add (bits_in 8 b) (bits_of s) (n * 8), bits_take n s)

bit_of_list : (s : List ℕ) (q r : ℕ) → r < 8 → q < length s → get_or (bits_of s) (q * 8 + r) 0 ≡ get_or s q 0 / 2 ^ (7 - r) % 2
unfolding bits_of
bit_of_list [] q r h k = absurd (omega arith)
bit_of_list (b ∷ s) zero r h k =
    let e : zero * 8 + r ≡ r = omega arith in
    rw e (get_or-append (bits_in 8 b) (bits_of s) 0 r (let l = length_in 8 b in omega arith) ∙ bit_in 8 b r h)
bit_of_list (b ∷ s) (suc q) r h k =
    let e : suc q * 8 + r ≡ length (bits_in 8 b) + (q * 8 + r) = let l = length_in 8 b in omega arith in
    rw e (get_or-append-add (bits_in 8 b) (bits_of s) (q * 8 + r) 0 ∙ bit_of_list s q r h (omega arith))

-- the bit at place k is in byte k / 8
pub bit_of : (s : List ℕ) (k : ℕ) → k < length s * 8 → get_or (bits_of s) k 0 ≡ get_or s (k / 8) 0 / 2 ^ (7 - k % 8) % 2
bit_of s k h =
    let e : k ≡ k / 8 * 8 + k % 8 = omega arith in
    ap (λ (n : ℕ). get_or (bits_of s) n 0) e ∙ bit_of_list s (k / 8) (k % 8) (omega arith) (omega arith)

abbrev pub Binary : ℕ → Type 0
Binary b = b < 2

pub all_in : (w n : ℕ) → All Binary (bits_in w n)
unfolding bits_in
all_in zero n = tt
all_in (suc w) n = (mod-lt (n / 2 ^ w) {m = 2} (omega arith), all_in w n)

pub all_bits : (s : List ℕ) → All Binary (bits_of s)
unfolding bits_of
all_bits [] = tt
all_bits (b ∷ s) = all_append Binary (bits_in 8 b) (bits_of s) (all_in 8 b) (all_bits s)

-- every list of bits begins with zeros, and then a 1 or its end
pub leading : (l : List ℕ) → All Binary l → (n : ℕ) × ((l ≡ replicate n 0) ⊎ ((rest : List ℕ) × (l ≡ replicate n 0 ++ (1 ∷ rest))))
leading [] h = (0, inl refl)
leading (zero ∷ l) h = more (leading l h.1)
  where
    more : (n : ℕ) × ((l ≡ replicate n 0) ⊎ ((rest : List ℕ) × (l ≡ replicate n 0 ++ (1 ∷ rest)))) →
        (n : ℕ) × ((0 ∷ l ≡ replicate n 0) ⊎ ((rest : List ℕ) × (0 ∷ l ≡ replicate n 0 ++ (1 ∷ rest))))
    more (n, inl e) = (suc n, inl (ap (λ m. 0 ∷ m) e))
    more (n, inr (rest, e)) = (suc n, inr (rest, ap (λ m. 0 ∷ m) e))
leading (suc zero ∷ l) h = (0, inr (l, refl))
leading (suc (suc b) ∷ l) h = let k = h.0 in absurd (omega arith)

-- ── a payload's bits ──

pub all_payload : (s : List ℕ) (count : ℕ) → All Binary (payload s count)
all_payload s count = all_take Binary count (bits_of s) (all_bits s)

pub length_payload : (s : List ℕ) (count : ℕ) → length (payload s count) ≡ min count (length s * 8)
length_payload s count = length-take count (bits_of s) ∙ ap (min count) (length_bits s)

pub payload_end : (s : List ℕ) (count place : ℕ) → min count (length s * 8) ≤ place → drop place (payload s count) ≡ []
payload_end s count place h = let l = length_payload s count in drop_of_length-le (payload s count) {i = place} (omega arith)

pub payload_bit : (s : List ℕ) (count place : ℕ) → place < count → place / 8 < length s →
    drop place (payload s count) ≡ (get_or s (place / 8) 0 / 2 ^ (7 - place % 8) % 2) ∷ drop (place + 1) (payload s count)
payload_bit s count place h k =
    let l = length_payload s count in
    let b = get_or-take count (bits_of s) place 0 h ∙ bit_of s place (omega arith) in
    rw (at_head (payload s count) place 0 (omega arith), b)

-- ── one bit ──

-- the bit at a place heads what is left there
heads : List ℕ → Option ℕ
heads [] = None
heads (b ∷ t) = Some b

bit_heads : (l : List ℕ) (place : ℕ) → bit_at l place ≡ heads (drop place l)
unfolding bit_at heads
bit_heads [] zero = refl
bit_heads [] (suc place) = refl
bit_heads (b ∷ l) zero = refl
bit_heads (b ∷ l) (suc place) = bit_heads l place

pub bit_here : (l : List ℕ) (place b : ℕ) (t : List ℕ) → drop place l ≡ b ∷ t → Some b ≡ bit_at l place
unfolding heads
bit_here l place b t e = sym (bit_heads l place ∙ ap heads e)

pub bit_none : (l : List ℕ) (place : ℕ) → drop place l ≡ [] → None ≡ bit_at l place
unfolding heads
bit_none l place e = sym (bit_heads l place ∙ ap heads e)

-- the other way: what a bit that was read, or was missing, says of what is left
head_is : (l : List ℕ) (place b : ℕ) (m : List ℕ) → drop place l ≡ m → heads m ≡ Some b → drop place l ≡ b ∷ drop (place + 1) l
unfolding heads
head_is l place b [] e r = let z : ◌≡◌ {A = ℕ} 0 1 = cc in absurd (omega arith)
head_is l place b (x ∷ t) e r =
    let y : x ≡ b = cc in
    let d : drop (place + 1) l ≡ t = sym (drop-drop 1 place l) ∙ ap (drop 1) e in
    e ∙ rw (y, d)

pub bit_read : (l : List ℕ) (place b : ℕ) → bit_at l place ≡ Some b → drop place l ≡ b ∷ drop (place + 1) l
bit_read l place b r = head_is l place b (drop place l) refl (sym (bit_heads l place) ∙ r)

head_none : (m : List ℕ) → heads m ≡ None → m ≡ []
unfolding heads
head_none [] r = refl
head_none (x ∷ t) r = let z : ◌≡◌ {A = ℕ} 0 1 = cc in absurd (omega arith)

pub bit_missing : (l : List ℕ) (place : ℕ) → bit_at l place ≡ None → drop place l ≡ []
bit_missing l place r = head_none (drop place l) (sym (bit_heads l place) ∙ r)

pub bit_small : (l : List ℕ) (place b : ℕ) (t : List ℕ) → All Binary l → drop place l ≡ b ∷ t → b < 2
bit_small l place b t h e = let k : All Binary (b ∷ t) = rw e at (all_drop Binary place l h) in k.0

pub bit_inside : (l : List ℕ) (place b : ℕ) (t : List ℕ) → drop place l ≡ b ∷ t → place < length l
bit_inside l place b t e = let d = sym (length-drop place l) ∙ ap length e in omega arith

-- ── any width ──

-- what was read writes the bits that it was read from, after those of `acc`
pub read_writes : (acc w n : ℕ) (l : List ℕ) → All Binary l → read_on acc w l ≡ Ok n → (take w l ≡ bits_in w n) × (n / 2 ^ w ≡ acc)
unfolding read_on bits_in
read_writes acc zero n l h e = let v = ok_same e in (refl, simp div-one (sym v))
read_writes acc (suc w) n [] h e = not_ok e
read_writes acc (suc w) n (b ∷ l) h e =
    let (bits, high) = read_writes (acc * 2 + b) w n l h.1 e in
    let small = h.0 in
    let m : n / 2 ^ w % 2 ≡ b = omega arith in
    (rw (m, bits), rw (pow-suc 2 w, ← div-div-eq-div-mul n (2 ^ w) 2) (omega arith))

-- and bits that write n are read as n
pub reads_written : (acc w n : ℕ) (l : List ℕ) → take w l ≡ bits_in w n → n / 2 ^ w ≡ acc → read_on acc w l ≡ Ok n
unfolding read_on bits_in
reads_written acc zero n l e h = ap Ok (sym h ∙ div-one n)
reads_written acc (suc w) n [] e h = let z : ◌≡◌ {A = ℕ} 0 1 = cc (ap length e) in absurd (omega arith)
reads_written acc (suc w) n (b ∷ l) e h =
    let x : b ≡ n / 2 ^ w % 2 = cc in
    let t : take w l ≡ bits_in w n = cc in
    let d : n / 2 ^ w / 2 ≡ acc = div-div-eq-div-mul n (2 ^ w) 2 ∙ (rw (pow-suc 2 w) at h) in
    reads_written (acc * 2 + b) w n l t (omega arith)

-- a read fails exactly where the bits are fewer than it wants, and by how many they are fewer
pub read_lacks : (acc w m : ℕ) (l : List ℕ) → read_on acc w l ≡ Err m → (length l < w) × (m ≡ w - length l)
unfolding read_on
read_lacks acc zero m l e = not_err e
read_lacks acc (suc w) m [] e = let s = err_same e in (omega arith, omega arith)
read_lacks acc (suc w) m (b ∷ l) e = let r = read_lacks (acc * 2 + b) w m l e in (omega arith, omega arith)

pub lacks_read : (acc w : ℕ) (l : List ℕ) → length l < w → read_on acc w l ≡ Err (w - length l)
unfolding read_on
lacks_read acc zero l h = absurd (omega arith)
lacks_read acc (suc w) [] h = let e : suc w ≡ suc w - 0 = omega arith in ap Err e
lacks_read acc (suc w) (b ∷ l) h =
    let e : w - length l ≡ suc w - suc (length l) = omega arith in
    lacks_read (acc * 2 + b) w l (omega arith) ∙ ap Err e

-- ── within 32 bits ──

pub within_wide : (l : List ℕ) (place width : ℕ) → 32 < width → read_within l place width ≡ Err TooWide
unfolding read_within
within_wide l place width h = simp (lt-leb width 32 h)

pub within_is : (l : List ℕ) (place width : ℕ) → width ≤ 32 → read_within l place width ≡ read_says (read_at l place width)
unfolding read_within
within_is l place width h = simp (le-leb width 32 h)

-- no two reads answer alike, and none answers TooWide
pub says_same : (r s : Result ℕ ℕ) → read_says r ≡ read_says s → r ≡ s
says_same (Ok m) (Ok n) e = let i : m ≡ n = cc in ap Ok i
says_same (Ok m) (Err n) e = let z : ◌≡◌ {A = ℕ} 0 1 = cc in absurd (omega arith)
says_same (Err m) (Ok n) e = let z : ◌≡◌ {A = ℕ} 0 1 = cc in absurd (omega arith)
says_same (Err m) (Err n) e = let i : m ≡ n = cc in ap Err i

-- a refusal says how many bits are missing
pub says_err : (r : Result ℕ ℕ) (e : ReadError) → read_says r ≡ Err e → (m : ℕ) × (r ≡ Err m) × (e ≡ Missing m)
says_err (Ok v) e h = not_err h
says_err (Err m) e h = (m, refl, sym (err_same h))

pub says_wide : {P : Type 0} (r : Result ℕ ℕ) → read_says r ≡ Err TooWide → P
says_wide (Ok v) e = let z : ◌≡◌ {A = ℕ} 0 1 = cc in absurd (omega arith)
says_wide (Err n) e = let z : ◌≡◌ {A = ℕ} 0 1 = cc in absurd (omega arith)

module _ (l : List ℕ) (place width : ℕ) (narrow : width ≤ 32) where
  pub within_value : (n : ℕ) → read_within l place width ≡ Ok n → read_at l place width ≡ Ok n
  within_value n e = says_same (read_at l place width) (Ok n) (sym (within_is l place width narrow) ∙ e)

  pub within_missing : (m : ℕ) → read_within l place width ≡ Err (Missing m) → read_at l place width ≡ Err m
  within_missing m e = says_same (read_at l place width) (Err m) (sym (within_is l place width narrow) ∙ e)

  pub within_err : (e : ReadError) → read_within l place width ≡ Err e → (m : ℕ) × (read_at l place width ≡ Err m) × (e ≡ Missing m)
  within_err e h = says_err (read_at l place width) e (sym (within_is l place width narrow) ∙ h)

  pub never_wide : {P : Type 0} → read_within l place width ≡ Err TooWide → P
  never_wide e = says_wide (read_at l place width) (sym (within_is l place width narrow) ∙ e)
