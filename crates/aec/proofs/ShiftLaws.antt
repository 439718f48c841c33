-- The laws of bits taken one by one, for both loops.
use Prim.Native.Nat.{ℕ, ◌+◌, ◌*◌, ◌≤◌, ◌<◌}
use mathlib.Core.Path.{◌≡◌, refl, sym, ap, subst, ◌∙◌}
use mathlib.Core.List.{List, [], ◌∷◌}
use mathlib.Core.Bool.{Bool, true, false}
use native.Mathlib.Omega.{arith}
use borrow.Author.Tests.{leb-false}
use lib.Dec.{leb}
use lib.ListN.{length, drop, length-drop}
use lib.Seq.{drop-drop}
use Rattle.answers.specs.Answers.{Outcome, done, and_then}
use Rattle.bits.specs.Lists.{All}
use Rattle.bits.proofs.ListLaws.{all_drop}
use Rattle.bits.proofs.TestLaws.{by_test}
use Rattle.bits.proofs.BitLaws.{Binary}
use Rattle.aec.specs.Bins.{no_bit, double_of, shifts, normalise_of, widen_of}
use Rattle.aec.specs.Says.{refusal_says}
use Rattle.aec.specs.declared.Shift.{Shift}
use Rattle.aec.specs.declared.Refusal.{Refusal}
use Rattle.answers.proofs.OutcomeLaws.{stops, goes}

-- ── one bit ──

pub double_bit : (l : List ℕ) (value place b : ℕ) → drop place l ≡ b ∷ drop (place + 1) l → done (value * 2 + b, place + 1) ≡ double_of (drop place l) value place
unfolding double_of
double_bit l value place b e = rw e

pub double_none : (l : List ℕ) (value place : ℕ) → drop place l ≡ [] → no_bit ≡ double_of (drop place l) value place
unfolding double_of
double_none l value place e = rw e

-- a bit that was taken
pub record Taken (l : List ℕ) (value place more next : ℕ) : Type 0 where
  pub low : value * 2 ≤ more
  pub high : more ≤ value * 2 + 1
  pub next_is : next ≡ place + 1
  pub inside : place < length l

taken_from_lem : (l : List ℕ) (value place more next : ℕ) (m : List ℕ) → drop place l ≡ m → All Binary m → double_of m value place ≡ done (more, next) → Taken l value place more next
unfolding double_of
taken_from_lem l value place more next [] e h d = let z : ◌≡◌ {A = ℕ} 0 1 = cc in absurd (omega arith)
taken_from_lem l value place more next (b ∷ t) e h d =
    let p : ◌≡◌ {A = ℕ × ℕ} (value * 2 + b, place + 1) (more, next) = cc in
    let v = ap (λ q. q.0) p in
    let n = ap (λ q. q.1) p in
    let k = sym (length-drop place l) ∙ ap length e in
    let s = h.0 in
    record { low = omega arith; high = omega arith; next_is = sym n; inside = omega arith }

pub taken : (l : List ℕ) (value place more next : ℕ) → All Binary l → double_of (drop place l) value place ≡ done (more, next) → Taken l value place more next
taken l value place more next h d = taken_from_lem l value place more next (drop place l) refl (all_drop Binary place l h) d

-- ── the loops ──

module _ (enough : Shift → Bool) (step : ℕ → ℕ) where
  pub shifts_enough : (l : List ℕ) (z : Shift) → enough z ≡ true → shifts enough step l z ≡ done z
  unfolding shifts
  shifts_enough [] z h = simp h
  shifts_enough (b ∷ l) z h = simp h

  pub shifts_none : (z : Shift) → enough z ≡ false → shifts enough step [] z ≡ no_bit
  unfolding shifts
  shifts_none z h = simp h

  pub shifts_more : (b : ℕ) (l : List ℕ) (z : Shift) → enough z ≡ false
      → shifts enough step (b ∷ l) z ≡ shifts enough step l (record { value = z.value * 2 + b; beside = step z.beside; place = z.place + 1 })
  unfolding shifts
  shifts_more b l z h = simp h

  -- the turn that follows a bit that was taken
  abbrev pub turn : List ℕ → ℕ → ℕ × ℕ → Outcome Shift
  turn l beside v = shifts enough step (drop v.1 l) (record { value = v.0; beside = step beside; place = v.1 })

  turn_from : (l : List ℕ) (z : Shift) (m : List ℕ) → drop z.place l ≡ m → enough z ≡ false
      → shifts enough step m z ≡ and_then (double_of m z.value z.place) (turn l z.beside)
  unfolding double_of
  turn_from l z [] e h = shifts_none z h
  turn_from l z (b ∷ t) e h =
      let d : drop (z.place + 1) l ≡ t = sym (drop-drop 1 z.place l) ∙ ap (drop 1) e in
      shifts_more b t z h ∙ rw d

  -- one turn of a loop
  pub shifts_turn : (l : List ℕ) (z : Shift) → enough z ≡ false
      → shifts enough step (drop z.place l) z ≡ and_then (double_of (drop z.place l) z.value z.place) (turn l z.beside)
  shifts_turn l z h = turn_from l z (drop z.place l) refl h

  -- a loop's invariant: what is left to do is `whole`
  module _ (l : List ℕ) (z : Shift) (whole : Outcome Shift) (inv : whole ≡ shifts enough step (drop z.place l) z) where
    pub loop_on : (v : ℕ × ℕ) → enough z ≡ false → done v ≡ double_of (drop z.place l) z.value z.place → whole ≡ turn l z.beside v
    loop_on v h e = inv ∙ shifts_turn l z h ∙ sym (goes (turn l z.beside) e)

    pub loop_stops : (r : Refusal) → enough z ≡ false → refusal_says r ≡ double_of (drop z.place l) z.value z.place → refusal_says r ≡ whole
    loop_stops r h e = stops (turn l z.beside) e ∙ sym (inv ∙ shifts_turn l z h)

    pub loop_ends : enough z ≡ true → done z ≡ whole
    loop_ends h = sym (inv ∙ shifts_enough (drop z.place l) z h)

-- what each turn keeps holds at the end, and the end is within the bits
module _ (enough : Shift → Bool) (step : ℕ → ℕ) (I : Shift → Type 0)
    (keep : (z : Shift) (b : ℕ) → enough z ≡ false → b < 2 → I z → I (record { value = z.value * 2 + b; beside = step z.beside; place = z.place + 1 })) where
  pub shifts_keeps : (l : List ℕ) (z w : Shift) → All Binary l → I z → shifts enough step l z ≡ done w
      → (I w) × (enough w ≡ true) × (z.place ≤ w.place) × (w.place ≤ z.place + length l)
  shifts_keeps [] z w h i e =
      by_test (enough z)
      (λ t.
      let f : z ≡ w = cc (shifts_enough enough step [] z t) in
      let p : z.place ≡ w.place = ap (λ y. y.place) f in
      (subst I f i, ap enough (sym f) ∙ t, omega arith, omega arith))
      (λ t. let z : ◌≡◌ {A = ℕ} 0 1 = cc (shifts_none enough step z t) in absurd (omega arith))
  shifts_keeps (b ∷ l) z w h i e =
      by_test (enough z)
      (λ t.
      let f : z ≡ w = cc (shifts_enough enough step (b ∷ l) z t) in
      let p : z.place ≡ w.place = ap (λ y. y.place) f in
      (subst I f i, ap enough (sym f) ∙ t, omega arith, omega arith))
      (λ t.
      let k = shifts_keeps l (record { value = z.value * 2 + b; beside = step z.beside; place = z.place + 1 }) w h.1 (keep z b t h.0 i) (sym (shifts_more enough step b l z t) ∙ e) in
      let p = k.2 in
      let q = k.3 in
      (k.0, k.1, omega arith, omega arith))

-- ── what the two loops end with ──

-- valueS counts the bits that were taken
pub normalised : (l : List ℕ) (vt place : ℕ) (w : Shift) → All Binary l → place ≤ length l → normalise_of l vt place ≡ done w
    → (w.beside ≤ w.place) × (place ≤ w.place) × (w.place ≤ length l)
normalised l vt place w h k e =
    let r = shifts_keeps (λ z. leb 256 z.value) (λ vs. vs + 1) (λ z. z.beside ≤ z.place) (λ z b f s i. omega arith)
    (drop place l) (record { value = vt; beside = 0; place = place }) w (all_drop Binary place l h) (omega arith) e in
    let d = length-drop place l in
    let p = r.3 in
    (r.0, r.2, omega arith)

-- the range stays below 512, and the value in proportion to it
pub widened : (l : List ℕ) (vt range place : ℕ) (w : Shift) → All Binary l → place ≤ length l → vt < 768 * range → range < 512
    → widen_of l vt range place ≡ done w → (w.value < 768 * w.beside) × (w.beside < 512) × (place ≤ w.place) × (w.place ≤ length l)
widened l vt range place w h k i j e =
    let r = shifts_keeps (λ z. leb 256 z.beside) (λ r. r * 2) (λ z. (z.value < 768 * z.beside) × (z.beside < 512))
    (λ z b f s i. let lt = leb-false 256 z.beside f in (omega arith, omega arith))
    (drop place l) (record { value = vt; beside = range; place = place }) w (all_drop Binary place l h) (i, j) e in
    let d = length-drop place l in
    let p = r.3 in
    (r.0.0, r.0.1, r.2, omega arith)
