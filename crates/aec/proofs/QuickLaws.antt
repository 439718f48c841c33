-- The laws of a bin that was not predicted, by many bits at once: what both loops come to over a number that holds them.
use Prim.Native.Nat.{ℕ, zero, suc, ◌+◌, ◌-◌, ◌*◌, ◌/◌, ◌%◌, ◌^◌, ◌≤◌, ◌<◌}
use mathlib.Core.Path.{◌≡◌, sym, ap, subst, ◌∙◌}
use mathlib.Core.List.{List, ◌∷◌}
use mathlib.Core.Bool.{Bool, true, false, not}
use native.Mathlib.Omega.{arith}
use native.Mathlib.Numerals.{add-one}
use native.Mathlib.Nat.{pow-suc, div-div-eq-div-mul, add-zero, sub-zero, mul-one, mul_assoc, add-mul, mul-le-mul_right, mod-lt, mod-eq_of_lt}
use borrow.Author.Tests.{le-leb, lt-leb, eq-eqb, ne_eqb, eqb-true, eqb-false}
use lib.Dec.{leb, eqb}
use lib.ListN.{drop}
use lib.Pow.{pow_mono, pow_pos, high, low, mod-pow-add}
use Rattle.answers.specs.Answers.{done}
use Rattle.answers.proofs.OutcomeLaws.{goes, goes_on}
use Rattle.bits.specs.Bits.{payload}
use Rattle.bits.proofs.TestLaws.{by_test, chosen}
use Rattle.bits.proofs.WordLaws.{Ahead, ahead_same, ahead_past, ahead_bit, word_ahead}
use Rattle.bits.specs.Reader.{word_at}
use Rattle.renorm.specs.Reader.{doublings_of, needed_of, left_of, shifted_of, renormalise_of}
use Rattle.renorm.specs.declared.Registers.{Registers}
use Rattle.std.specs.Prelude.{Some}
use Rattle.renorm.proofs.CountLaws.{Doubles, Needs, doubles, needs_bits}
use Rattle.renorm.proofs.ShiftedLaws.{left_near, done_holds, word_of}
use Rattle.aec.specs.Bins.{shifts, normalise_of, widen_of, settle_of, remainder_of, unpredicted_of}
use Rattle.aec.specs.Inside.{head_of}
use Rattle.aec.specs.declared.State.{State}
use Rattle.aec.specs.Bins.{Parts}
use Rattle.aec.specs.declared.Shift.{Shift}
use Rattle.aec.proofs.ShiftLaws.{shifts_enough, shifts_more, double_bit}
use Rattle.aec.proofs.StepLaws.{remainder_even, remainder_past}

-- ── turns of a loop that are not enough are one shift of the number ──

-- a number less its last j + 1 bits, and the next of them, is it less its last j bits
next_bit : (v j : ℕ) → v / 2 ^ (j + 1) * 2 + v / 2 ^ j % 2 ≡ v / 2 ^ j
next_bit v j =
    let d : v / 2 ^ (j + 1) ≡ v / 2 ^ j / 2 = rw (add-one j, pow-suc 2 j) (sym (div-div-eq-div-mul v (2 ^ j) 2)) in
    omega arith

module _ (enough : Shift → Bool) (step : ℕ → ℕ) (bits : List ℕ) (place m v : ℕ) (a : Ahead bits place m v)
    (beside : ℕ → ℕ) (steps : (i : ℕ) → beside (suc i) ≡ step (beside i)) where
  -- after i turns
  abbrev turned : ℕ → Shift
  turned i = record { value = v / 2 ^ (m - i); beside = beside i; place = place + i }

  turn_more : (i : ℕ) → i < m → enough (turned i) ≡ false
      → shifts enough step (drop (place + i) bits) (turned i) ≡ shifts enough step (drop (place + suc i) bits) (turned (suc i))
  turn_more i h e =
      let p : place + i + 1 ≡ place + suc i = omega arith in
      let j : m - 1 - i ≡ m - suc i = omega arith in
      let k : m - i ≡ m - suc i + 1 = omega arith in
      let b = v / 2 ^ (m - suc i) % 2 in
      let l : drop (place + i) bits ≡ b ∷ drop (place + suc i) bits =
      ahead_bit bits place m v i a h ∙ ap (λ (n : ℕ). (v / 2 ^ n % 2) ∷ drop (place + i + 1) bits) j ∙ ap (λ (n : ℕ). b ∷ drop n bits) p in
      let w : v / 2 ^ (m - i) * 2 + b ≡ v / 2 ^ (m - suc i) = ap (λ (n : ℕ). v / 2 ^ n * 2 + b) k ∙ next_bit v (m - suc i) in
      ap (λ (t : List ℕ). shifts enough step t (turned i)) l
      ∙ shifts_more enough step b (drop (place + suc i) bits) (turned i) e
      ∙ ap (λ (n : ℕ). shifts enough step (drop (place + suc i) bits) (record { value = n; beside = step (beside i); place = place + i + 1 })) w
      ∙ ap (λ (n : ℕ). shifts enough step (drop (place + suc i) bits) (record { value = v / 2 ^ (m - suc i); beside = n; place = place + i + 1 })) (sym (steps i))
      ∙ ap (λ (n : ℕ). shifts enough step (drop (place + suc i) bits) (record { value = v / 2 ^ (m - suc i); beside = beside (suc i); place = n })) p

  turns_more : (k : ℕ) → k ≤ m → ((i : ℕ) → i < k → enough (turned i) ≡ false)
      → shifts enough step (drop place bits) (record { value = v / 2 ^ m; beside = beside 0; place = place }) ≡ shifts enough step (drop (place + k) bits) (turned k)
  turns_more zero h e = simp (add-zero, sub-zero)
  turns_more (suc k) h e = turns_more k (omega arith) (λ i j. e i (omega arith)) ∙ turn_more k (omega arith) (e k (omega arith))

  -- so many turns, and then there is enough
  turns_end : (k : ℕ) → k ≤ m → ((i : ℕ) → i < k → enough (turned i) ≡ false) → enough (turned k) ≡ true
      → shifts enough step (drop place bits) (record { value = v / 2 ^ m; beside = beside 0; place = place }) ≡ done (turned k)
  turns_end k h e f = turns_more k h e ∙ shifts_enough enough step (drop (place + k) bits) (turned k) f

-- both loops
widens : (bits : List ℕ) (place m v range k : ℕ) → Ahead bits place m v → k ≤ m → Doubles range k
    → widen_of bits (v / 2 ^ m) range place ≡ done (record { value = v / 2 ^ (m - k); beside = range * 2 ^ k; place = place + k })
widens bits place m v range k a h d =
    let one : range * 2 ^ 0 ≡ range = mul-one range in
    let t = turns_end (λ z. leb 256 z.beside) (λ r. r * 2) bits place m v a (λ i. range * 2 ^ i) (λ i. ap (λ (n : ℕ). range * n) (pow-suc 2 i) ∙ sym (mul_assoc range (2 ^ i) 2))
    k h (λ i j. lt-leb 256 (range * 2 ^ i) (d.below i j)) (le-leb 256 (range * 2 ^ k) d.reached) in
    rw one at t

normalises : (bits : List ℕ) (place m v n : ℕ) → Ahead bits place m v → n ≤ m → Needs v m n
    → normalise_of bits (v / 2 ^ m) place ≡ done (record { value = v / 2 ^ (m - n); beside = n; place = place + n })
normalises bits place m v n a h d =
    turns_end (λ z. leb 256 z.value) (λ vs. vs + 1) bits place m v a (λ i. i) (λ i. sym (add-one i))
    n h (λ i j. lt-leb 256 (v / 2 ^ (m - i)) (d.below i j)) (le-leb 256 (v / 2 ^ (m - n)) (d.reached h))

-- ── what valueT becomes, with the bits that follow it ──

module _ (bits : List ℕ) (x : State) (y : Parts) (v width : ℕ) (fits : y.t ≤ 255) (small : v < 2 ^ width) (some : 1 ≤ width) (a : Ahead bits x.place width v) where
  -- the head and the bits as one number, and how many of them are left
  abbrev borrows : Bool
  borrows = not (eqb y.s x.vs)

  abbrev left : ℕ
  left = left_of width borrows

  abbrev number : ℕ
  number = head_of x y * 2 ^ left + v

  -- the value, the place, and the bits ahead
  abbrev Opened : Type 0
  Opened = (done (number / 2 ^ left, x.place + (width - left)) ≡ remainder_of bits x y) × Ahead bits (x.place + (width - left)) left number

  open_even : y.s ≡ x.vs → Opened
  open_even e =
      let n = x.vt - y.t in
      let p : x.place + (width - width) ≡ x.place = omega arith in
      let h : (n * 2 ^ width + v) / 2 ^ width ≡ n = high n width small in
      let o : v % 2 ^ width ≡ (n * 2 ^ width + v) % 2 ^ width = mod-eq_of_lt small ∙ sym (low n width small) in
      simp (eq-eqb _ _ e, p, h) (remainder_even bits x y e, ahead_same bits x.place width v (n * 2 ^ width + v) o a)

  open_past : (y.s ≡ x.vs → ⊥) → Opened
  open_past e =
      let m = width - 1 in
      let n = 256 + x.vt * 2 - y.t in
      let b = v / 2 ^ m % 2 in
      let w : width ≡ 1 + m = omega arith in
      let split : v ≡ b * 2 ^ m + v % 2 ^ m = sym (mod-eq_of_lt small) ∙ ap (λ (i : ℕ). v % 2 ^ i) w ∙ mod-pow-add v 1 m in
      let g : n * 2 ^ m + v ≡ (n + b) * 2 ^ m + v % 2 ^ m = let d = add-mul n b (2 ^ m) in omega arith in
      let below = mod-lt v {m = 2 ^ m} (pow_pos m) in
      let i : n + b ≡ 256 + (x.vt * 2 + b) - y.t = omega arith in
      let h : (n * 2 ^ m + v) / 2 ^ m ≡ 256 + (x.vt * 2 + b) - y.t = ap (λ (k : ℕ). k / 2 ^ m) g ∙ high (n + b) m below ∙ i in
      let o : v % 2 ^ m ≡ (n * 2 ^ m + v) % 2 ^ m = sym (ap (λ (k : ℕ). k % 2 ^ m) g ∙ low (n + b) m below) in
      let p : x.place + (width - m) ≡ x.place + 1 = omega arith in
      let j : width - 1 - 0 ≡ m = omega arith in
      let none : x.place + 0 ≡ x.place = omega arith in
      let head : drop x.place bits ≡ b ∷ drop (x.place + 1) bits = rw (j, none) at (ahead_bit bits x.place width v 0 a (omega arith)) in
      let taken = goes {B = ℕ × ℕ} (λ (q : ℕ × ℕ). done (256 + q.0 - y.t, q.1)) (double_bit bits x.vt x.place b head) in
      simp (ne_eqb _ _ e, p, h) (
        taken ∙ sym (remainder_past bits x y e),
        ahead_same bits (x.place + 1) m v (n * 2 ^ m + v) o (ahead_past bits x.place 1 m v (rw w at a)),
      )

  opened : Opened
  opened = by_test (eqb y.s x.vs) (λ t. open_even (eqb-true _ _ t)) (λ f. open_past (eqb-false _ _ f))

-- ── the state after a bin that was not predicted ──

settles : (bits : List ℕ) (rt place m v n : ℕ) → Ahead bits place m v → n ≤ m → Needs v m n
    → done (record { rs = 0; rt = rt; vs = n; vt = v / 2 ^ (m - n) % 256; place = place + n }) ≡ settle_of bits rt (v / 2 ^ m) place
settles bits rt place m v n a h d =
    goes (λ (q : Shift). done (record { rs = 0; rt = rt; vs = q.beside; vt = q.value % 256; place = q.place })) (sym (normalises bits place m v n a h d))

-- from what valueT becomes on
after_remainder : (bits : List ℕ) (x : State) (y : Parts) (place m v k n : ℕ) → done (v / 2 ^ m, place) ≡ remainder_of bits x y → Ahead bits place m v
    → Doubles y.range k → Needs v (m - k) n → k ≤ m → n ≤ m - k
    → done (record { rs = 0; rt = y.range * 2 ^ k % 256; vs = n; vt = v / 2 ^ (m - k - n) % 256; place = place + k + n }) ≡ unpredicted_of bits x y
unfolding unpredicted_of
after_remainder bits x y place m v k n r a d e f g =
    let s : k + (m - k) ≡ m = omega arith in
    settles bits (y.range * 2 ^ k % 256) (place + k) (m - k) v n (ahead_past bits place k (m - k) v (rw s a)) g e
    ∙ goes_on (λ q. widen_of bits q.0 y.range q.1) (λ q z. settle_of bits (z.beside % 256) z.value z.place) r _ (sym (widens bits place m v y.range k a f d))

-- by the number that holds the bits, of which so many are left
by_number : (bits : List ℕ) (x : State) (y : Parts) (width left number k n : ℕ)
    → done (number / 2 ^ left, x.place + (width - left)) ≡ remainder_of bits x y → Ahead bits (x.place + (width - left)) left number
    → Doubles y.range k → Needs number (left - k) n → k ≤ left → n ≤ left - k → left ≤ width
    → done (record { rs = 0; rt = y.range * 2 ^ k % 256; vs = n; vt = number / 2 ^ (left - k - n) % 256; place = x.place + (width - (left - k - n)) }) ≡ unpredicted_of bits x y
by_number bits x y width left number k n r a d e f g h =
    let p : x.place + (width - (left - k - n)) ≡ x.place + (width - left) + k + n = omega arith in
    rw p (after_remainder bits x y (x.place + (width - left)) left number k n r a d e f g)

-- the number fits 64 bits
number_small : (x : State) (y : Parts) (left v : ℕ) → x.vt ≤ 255 → left ≤ 32 → v < 4294967296 → head_of x y * 2 ^ left + v < 18446744073709551616
number_small x y left v h i j =
    let head : head_of x y < 1024 = chosen (λ (n : ℕ). n < 1024) (eqb y.s x.vs) _ _ (λ _. omega arith) (λ _. omega arith) in
    let m = mul-le-mul_right {m = head_of x y} {n = 1024} (2 ^ left) (omega arith) in
    let p = pow_mono {i = left} {j = 32} i in
    omega arith

-- by the bits that were read
by_word : (bits : List ℕ) (x : State) (y : Parts) (z : Registers) (v width : ℕ) → x.vt ≤ 255 → y.t ≤ 255 → 1 ≤ y.range → y.range < 512
    → 25 ≤ width → width ≤ 32 → v < 2 ^ width → Ahead bits x.place width v
    → (let left = left_of width (not (eqb y.s x.vs)) in shifted_of (head_of x y * 2 ^ left + v) left width y.range ≡ Some z)
    → done (record { rs = 0; rt = z.rt; vs = z.vs; vt = z.vt; place = x.place + z.taken }) ≡ unpredicted_of bits x y
by_word bits x y z v width small fits some few least most fit a e =
    let left = left_of width (not (eqb y.s x.vs)) in
    let (within, near) = left_near width (not (eqb y.s x.vs)) in
    let (enough, same) = done_holds (head_of x y * 2 ^ left + v) left width y.range z e in
    let d = doubles y.range some few in
    let (r, b) = opened bits x y v width fits fit (omega arith) a in
    let k = d.few in
    let u = number_small x y left v small (omega arith) (omega (arith, pow_mono {i = width} {j = 32} most)) in
    subst (λ (q : Registers). done (record { rs = 0; rt = q.rt; vs = q.vs; vt = q.vt; place = x.place + q.taken }) ≡ unpredicted_of bits x y) same
    (by_number bits x y width left (head_of x y * 2 ^ left + v) (doublings_of y.range) (needed_of (head_of x y * 2 ^ left + v) (left - doublings_of y.range)) r b d (needs_bits _ _ u) (omega arith) enough within)

-- what renormalisation answers is that state
pub quick_state : (s : List ℕ) (count : ℕ) (x : State) (y : Parts) (z : Registers) → x.vt ≤ 255 → y.t ≤ 255 → 1 ≤ y.range → y.range < 512
    → renormalise_of (payload s count) x.place (head_of x y) (not (eqb y.s x.vs)) y.range ≡ Some z
    → done (record { rs = 0; rt = z.rt; vs = z.vs; vt = z.vt; place = x.place + z.taken }) ≡ unpredicted_of (payload s count) x y
quick_state s count x y z small fits some few e =
    let (v, width, is, whole) = word_of (word_at (payload s count) x.place) (head_of x y) y.range (not (eqb y.s x.vs)) z e in
    let (wide, fit, a) = word_ahead s count x.place v width is in
    by_word (payload s count) x y z v width small fits some few (omega arith) (omega arith) fit a whole
