-- Which bits the start lacks, by the bits alone.
use Rattle.std.proofs.Common.{Ok}
use Prim.Native.Nat.{ℕ, zero, suc, ◌+◌, ◌*◌, ◌^◌, ◌≤◌, ◌<◌}
use mathlib.Core.Path.{◌≡◌, refl, sym, ap, subst, ◌∙◌}
use mathlib.Core.List.{List, [], ◌∷◌, ◌++◌, append-nil}
use mathlib.Core.Bool.{Bool, true, false}
use native.Mathlib.Omega.{arith}
use native.Mathlib.Nat.{pow-suc, mul-le-mul_right, le-mul_of_pos_right}
use borrow.Author.Tests.{lt-leb, leb-false}
use lib.Dec.{leb}
use lib.ListN.{length, drop, replicate}
use lib.Pow.{pow_pos}
use Rattle.answers.specs.Answers.{Outcome, done}
use Rattle.answers.proofs.OutcomeLaws.{not_done}
use Rattle.answers.proofs.ResultLaws.{ok_same, not_ok}
use Rattle.bits.specs.Bits.{read_on, read_at}
use Rattle.bits.specs.Lists.{All}
use Rattle.bits.proofs.BitLaws.{Binary}
use Rattle.bits.proofs.TestLaws.{by_test}
use Rattle.aec.specs.Bins.{no_bit, shifts, normalise_of}
use Rattle.aec.specs.declared.Shift.{Shift}
use Rattle.aec.proofs.ShiftLaws.{shifts_enough, shifts_none, shifts_more}

-- the start's loop
abbrev enough : Shift → Bool
enough z = leb 256 z.value

abbrev loop : List ℕ → Shift → Outcome Shift
loop = shifts enough (λ vs. vs + 1)

abbrev next : Shift → ℕ → Shift
next z b = record { value = z.value * 2 + b; beside = z.beside + 1; place = z.place + 1 }

-- ── so many bits more ──

doubled : (v n : ℕ) → v * 2 ^ suc n ≡ v * 2 * 2 ^ n
doubled v n = rw (pow-suc 2 n) (omega arith)

-- a value that n bits more leave below 512 is below 256 before the last of them
still : (z : Shift) (n : ℕ) → (z.value + 1) * 2 ^ suc n ≤ 512 → enough z ≡ false
still z n h = let v = z.value in lt-leb 256 v (let d = doubled (v + 1) n in let k = le-mul_of_pos_right ((v + 1) * 2) (pow_pos n) in omega arith)

-- and is so after each of them
on : (z : Shift) (n b : ℕ) → b < 2 → (z.value + 1) * 2 ^ suc n ≤ 512 → ((next z b).value + 1) * 2 ^ n ≤ 512
on z n b s h = let v = z.value in let d = doubled (v + 1) n in let k = mul-le-mul_right {m = v * 2 + b + 1} {n = (v + 1) * 2} (2 ^ n) (omega arith) in omega arith

-- n bits more are enough, and they are there
reaches : (n : ℕ) (l : List ℕ) (z : Shift) → 256 ≤ z.value * 2 ^ n → n ≤ length l → (w : Shift) × (loop l z ≡ done w)
reaches zero l z h k = (z, shifts_enough enough (λ vs. vs + 1) l z (by_test (enough z) (λ t. t) (λ f. let low = leb-false 256 z.value f in absurd (omega arith))))
reaches (suc n) [] z h k = absurd (omega arith)
reaches (suc n) (b ∷ l) z h k =
    let v = z.value in
    let d = doubled v n in
    let m = mul-le-mul_right {m = v * 2} {n = v * 2 + b} (2 ^ n) (omega arith) in
    let r = reaches n l (next z b) (omega arith) (omega arith) in
    by_test (enough z) (λ t. (z, shifts_enough enough (λ vs. vs + 1) (b ∷ l) z t)) (λ f. (r.0, shifts_more enough (λ vs. vs + 1) b l z f ∙ r.1))

-- n bits are wanted, and fewer are there
lacks : (n : ℕ) (l : List ℕ) (z : Shift) → All Binary l → (z.value + 1) * 2 ^ n ≤ 512 → length l < n → loop l z ≡ no_bit
lacks zero l z all h k = absurd (omega arith)
lacks (suc n) [] z all h k = shifts_none enough (λ vs. vs + 1) z (still z n h)
lacks (suc n) (b ∷ l) z all h k =
    shifts_more enough (λ vs. vs + 1) b l z (still z n h) ∙ lacks n l (next z b) all.1 (on z n b all.0 h) (omega arith)

-- ── zeros, and then a 1 ──

-- zeros leave the value 0
skips : (k : ℕ) (l : List ℕ) (z : Shift) → z.value ≡ 0 → (w : Shift) × (w.value ≡ 0) × (loop (replicate k 0 ++ l) z ≡ loop l w)
skips zero l z h = (z, h, refl)
skips (suc k) l z h =
    let r = skips k l (next z 0) (omega arith) in
    let f : enough z ≡ false = lt-leb 256 z.value (omega arith) in
    (r.0, r.1, shifts_more enough (λ vs. vs + 1) 0 (replicate k 0 ++ l) z f ∙ r.2)

-- from 0 the loop lacks a bit where there is no 1, or fewer than eight bits after it
module _ (z : Shift) (h : z.value ≡ 0) where
  zeros_lack : (k : ℕ) → loop (replicate k 0) z ≡ no_bit
  zeros_lack k =
      let (w, v, e) = skips k [] z h in
      ap (λ l. loop l z) (sym (append-nil (replicate k 0))) ∙ e ∙ shifts_none enough (λ vs. vs + 1) w (lt-leb 256 w.value (omega arith))

  -- the 1 is taken
  one : (k : ℕ) (rest : List ℕ) → (w : Shift) × (w.value ≡ 1) × (loop (replicate k 0 ++ (1 ∷ rest)) z ≡ loop rest w)
  one k rest =
      let (w, v, e) = skips k (1 ∷ rest) z h in
      (next w 1, omega arith, e ∙ shifts_more enough (λ vs. vs + 1) 1 rest w (lt-leb 256 w.value (omega arith)))

  few_lack : (k : ℕ) (rest : List ℕ) → All Binary rest → length rest < 8 → loop (replicate k 0 ++ (1 ∷ rest)) z ≡ no_bit
  few_lack k rest all few = let (w, v, e) = one k rest in e ∙ lacks 8 rest w all (omega arith) few

  eight_reach : (k : ℕ) (rest : List ℕ) → 8 ≤ length rest → (w : Shift) × (loop (replicate k 0 ++ (1 ∷ rest)) z ≡ done w)
  eight_reach k rest many = let (w, v, e) = one k rest in let r = reaches 8 rest w (omega arith) many in (r.0, e ∙ r.1)

-- ── the nine are read at once ──

-- bits that are read at once are taken as one by one
at_once : (w : ℕ) (l : List ℕ) (z : Shift) (v : ℕ) → All Binary l → (z.value + 1) * 2 ^ w ≤ 512 → read_on z.value w l ≡ Ok v
    → (y : Shift) × (y.value ≡ v) × (loop l z ≡ loop (drop w l) y)
unfolding read_on
at_once zero l z v all h e = (z, ok_same e, refl)
at_once (suc w) [] z v all h e = not_ok e
at_once (suc w) (b ∷ l) z v all h e =
    let r = at_once w l (next z b) v all.1 (on z w b all.0 h) e in
    (r.0, r.1, shifts_more enough (λ vs. vs + 1) b l z (still z w h) ∙ r.2)

-- of two alike in value both lack a bit, or both end
data Alike (p q : Outcome Shift) : Type 0 where
  both_lack : p ≡ no_bit → q ≡ no_bit → Alike p q
  both_end : (w x : Shift) → p ≡ done w → q ≡ done x → Alike p q

alike_at : (l m : List ℕ) (y z : Shift) → y.value ≡ z.value → enough y ≡ true → Alike (loop l y) (loop m z)
alike_at l m y z e t = both_end y z (shifts_enough enough (λ vs. vs + 1) l y t) (shifts_enough enough (λ vs. vs + 1) m z (ap (leb 256) (sym e) ∙ t))

alike : (l : List ℕ) (y z : Shift) → y.value ≡ z.value → Alike (loop l y) (loop l z)
alike [] y z e =
    by_test (enough y) (alike_at [] [] y z e)
    (λ f. both_lack (shifts_none enough (λ vs. vs + 1) y f) (shifts_none enough (λ vs. vs + 1) z (ap (leb 256) (sym e) ∙ f)))
alike (b ∷ l) y z e =
    let r = alike l (next y b) (next z b) (ap (λ (v : ℕ). v * 2 + b) e) in
    by_test (enough y) (alike_at (b ∷ l) (b ∷ l) y z e)
    (λ f. rw (shifts_more enough (λ vs. vs + 1) b l y f, shifts_more enough (λ vs. vs + 1) b l z (ap (leb 256) (sym e) ∙ f)) r)

all_after : (k : ℕ) (rest : List ℕ) → All Binary (replicate k 0 ++ (1 ∷ rest)) → All Binary rest
all_after zero rest all = all.1
all_after (suc k) rest all = all_after k rest all.1

module _ (bits : List ℕ) (v : ℕ) (all : All Binary bits) (read : read_at bits 0 9 ≡ Ok v) where
  abbrev zero_bits : Shift
  zero_bits = record { value = 0; beside = 0; place = 0 }

  as_from_zero : Alike (loop bits zero_bits) (normalise_of bits v 9)
  unfolding read_at
  as_from_zero =
      let (y, is, e) = at_once 9 bits zero_bits v all (omega arith) read in
      rw e (alike (drop 9 bits) y (record { value = v; beside = 0; place = 9 }) is)

  lacking : loop bits zero_bits ≡ no_bit → normalise_of bits v 9 ≡ no_bit
  lacking h = by as_from_zero
    where
      by : Alike (loop bits zero_bits) (normalise_of bits v 9) → normalise_of bits v 9 ≡ no_bit
      by (both_lack p q) = q
      by (both_end w x p q) = not_done (sym h ∙ p)

  pub lacks_one : (k : ℕ) → bits ≡ replicate k 0 → normalise_of bits v 9 ≡ no_bit
  lacks_one k e = lacking (ap (λ l. loop l zero_bits) e ∙ zeros_lack zero_bits refl k)

  pub lacks_after : (k : ℕ) (rest : List ℕ) → bits ≡ replicate k 0 ++ (1 ∷ rest) → length rest < 8 → normalise_of bits v 9 ≡ no_bit
  lacks_after k rest e few = lacking (ap (λ l. loop l zero_bits) e ∙ few_lack zero_bits refl k rest (all_after k rest (subst (All Binary) e all)) few)

  pub ends_after : (k : ℕ) (rest : List ℕ) → bits ≡ replicate k 0 ++ (1 ∷ rest) → 8 ≤ length rest → (w : Shift) × (normalise_of bits v 9 ≡ done w)
  ends_after k rest e many = by as_from_zero
    where
      by : Alike (loop bits zero_bits) (normalise_of bits v 9) → (w : Shift) × (normalise_of bits v 9 ≡ done w)
      by (both_lack p q) = let r = eight_reach zero_bits refl k rest many in not_done (sym p ∙ ap (λ l. loop l zero_bits) e ∙ r.1)
      by (both_end w x p q) = (x, q)
