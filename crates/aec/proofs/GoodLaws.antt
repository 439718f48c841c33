-- Good leads to good, and past the first tests only PAYLOAD OUT refuses.
use Prim.Native.Nat.{ℕ, ◌-◌, ◌/◌, ◌%◌, ◌≤◌, ◌<◌}
use mathlib.Core.Path.{◌≡◌, refl, subst, ◌∙◌}
use mathlib.Core.List.{List, [], ◌∷◌}
use mathlib.Core.Bool.{Bool}
use native.Mathlib.Omega.{arith}
use lib.Dec.{eqb}
use lib.ListN.{length, drop}
use Rattle.answers.specs.Answers.{Outcome, done, and_then}
use Rattle.answers.specs.Limits.{longest_payload}
use Rattle.bits.specs.Bits.{payload, read_at}
use Rattle.bits.proofs.TestLaws.{by_test}
use Rattle.bits.proofs.BitLaws.{all_payload}
use Rattle.bits.proofs.ReadLaws.{found_value}
use Rattle.aec.specs.Bins.{within_limit, no_bit, double_of, shifts, normalise_of, widen_of, settle_of, start_of, split_of, misses_of, remainder_of, unpredicted_of, step_of}
use Rattle.aec.specs.Says.{refusal_says}
use Rattle.aec.specs.Claims.{Runs, runs_done, runs_out}
use Rattle.aec.specs.declared.Refusal.{Refusal}
use Rattle.aec.specs.declared.State.{State}
use Rattle.aec.specs.declared.Shift.{Shift}
use Rattle.aec.specs.Bins.{Parts}
use Rattle.aec.specs.Bins.{Guess}
use Rattle.answers.proofs.OutcomeLaws.{not_done, then_done}
use Rattle.bits.proofs.TestLaws.{chosen}
use Rattle.aec.proofs.PairLaws.{Predicts}
use Rattle.aec.proofs.RangeLaws.{StateRanges, payload_bound}
use Rattle.aec.proofs.ShiftLaws.{normalised, widened}
use Rattle.aec.proofs.StepLaws.{limit_held, nine_bits, split_ranges, not_missed, remainder_within, bin_hit, bin_missed}

-- ── good leads to good ──

module _ (bytes : List ℕ) (count : ℕ) (short : length bytes ≤ longest_payload) where
  settle_good : (rt vt place : ℕ) (y : State) → rt ≤ 255 → place ≤ length (payload bytes count) → settle_of (payload bytes count) rt vt place ≡ done y
      → (StateRanges (length (payload bytes count)) y) × (place ≤ y.place)
  settle_good rt vt place y h k e =
      let l = payload bytes count in
      let b = payload_bound bytes count short in
      let c = then_done (normalise_of l vt place) _ y e in
      let z = c.value in
      let n = normalised l vt place z (all_payload bytes count) k c.from in
      let is : record { rs = 0; rt = rt; vs = z.beside; vt = z.value % 256; place = z.place } ≡ y = cc c.to in
      subst (λ y. (StateRanges (length l) y) × (place ≤ y.place)) is
      (record { rs = omega arith; vs = omega arith; rt = h; vt = omega arith; place = n.2 }, n.1)

  unpredicted_good : (x : State) (y : Parts) (z : State) → StateRanges (length (payload bytes count)) x → 1 ≤ y.range → y.range < 512
      → unpredicted_of (payload bytes count) x y ≡ done z → (StateRanges (length (payload bytes count)) z) × (x.place ≤ z.place)
  unfolding unpredicted_of
  unpredicted_good x y z r low high e =
      let l = payload bytes count in
      let all = all_payload bytes count in
      let c = then_done (remainder_of l x y) _ z e in
      let v = remainder_within l x y c.value all r.vt r.place c.from in
      let d = then_done (widen_of l c.value.0 y.range c.value.1) _ z c.to in
      let w = widened l c.value.0 y.range c.value.1 d.value all v.2 (omega arith) high d.from in
      let s = settle_good (d.value.beside % 256) d.value.value d.value.place z (omega arith) w.3 d.to in
      (s.0, omega arith)

  -- a step from a state within its ranges leads to one, and its bin is 0 or 1
  pub step_good : (x : State) (g : Guess) (r : ℕ × State) → StateRanges (length (payload bytes count)) x → Predicts g → step_of (payload bytes count) x g ≡ done r
      → (StateRanges (length (payload bytes count)) r.1) × (r.0 ≤ 1) × (x.place ≤ r.1.place)
  unfolding step_of
  step_good x g r h p e =
      let l = payload bytes count in
      let y = split_of x (g.lg / 4) in
      let s = split_ranges x (g.lg / 4) h.rt (omega arith) (omega arith) in
      by_test (misses_of x y)
      (λ t.
      let c = then_done (unpredicted_of l x y) _ r (bin_missed l x g.p y t ∙ e) in
      let u = unpredicted_good x y c.value h s.low s.high c.from in
      let is : ◌≡◌ {A = ℕ × State} (1 - g.p, c.value) r = cc c.to in
      subst (λ r. (StateRanges (length l) r.1) × (r.0 ≤ 1) × (x.place ≤ r.1.place)) is (u.0, omega arith, u.1))
      (λ f.
      let n = not_missed x y f in
      let is : ◌≡◌ {A = ℕ × State} (g.p, record { rs = y.s; rt = y.t; vs = x.vs; vt = x.vt; place = x.place }) r = cc (bin_hit l x g.p y f) in
      subst (λ r. (StateRanges (length l) r.1) × (r.0 ≤ 1) × (x.place ≤ r.1.place)) is
      (record { rs = n; vs = h.vs; rt = s.t; vt = h.vt; place = h.place }, p.bin, omega arith))

-- the start leads to a state within its ranges
pub start_ranges : (bytes : List ℕ) (count : ℕ) (x : State) → start_of bytes count ≡ done x → StateRanges (length (payload bytes count)) x
unfolding start_of
start_ranges bytes count x e =
    let l = payload bytes count in
    let c = then_done (within_limit bytes) _ x e in
    let (vt, is, to) = found_value _ _ (read_at l 0 9) x (λ n e. not_done e) c.to in
    (settle_good bytes count (limit_held bytes c.from) 255 vt 9 x (omega arith) (nine_bits bytes count vt is).0 to).0

-- ── past the first tests only PAYLOAD OUT refuses ──

pub runs_then : {A B : Type 0} {o : Outcome A} (next : A → Outcome B) → Runs o → ((value : A) → Runs (next value)) → Runs (and_then o next)
runs_then next (runs_done {value}) k = k value
runs_then next runs_out k = runs_out

runs_double : (l : List ℕ) (v place : ℕ) → Runs (double_of l v place)
unfolding double_of
runs_double [] v place = runs_out
runs_double (b ∷ l) v place = runs_done

runs_shifts : (enough : Shift → Bool) (step : ℕ → ℕ) (l : List ℕ) (z : Shift) → Runs (shifts enough step l z)
unfolding shifts
runs_shifts enough step [] z = chosen Runs (enough z) _ _ (λ t. runs_done) (λ f. runs_out)
runs_shifts enough step (b ∷ l) z = chosen Runs (enough z) _ _ (λ t. runs_done) (λ f. runs_shifts enough step l _)

pub runs_settle : (l : List ℕ) (rt vt place : ℕ) → Runs (settle_of l rt vt place)
runs_settle l rt vt place = runs_then _ (runs_shifts _ _ (drop place l) _) (λ z. runs_done)

-- so it refuses for want of one bit alone
pub settle_refused : (l : List ℕ) (rt vt place : ℕ) (r : Refusal) → refusal_says r ≡ settle_of l rt vt place → no_bit ≡ settle_of l rt vt place
settle_refused l rt vt place r e = out (runs_settle l rt vt place) e
  where
    out : {o : Outcome State} → Runs o → refusal_says r ≡ o → no_bit ≡ o
    out runs_done q = not_done q
    out runs_out q = refl

runs_unpredicted : (l : List ℕ) (x : State) (y : Parts) → Runs (unpredicted_of l x y)
unfolding unpredicted_of remainder_of
runs_unpredicted l x y =
    runs_then _ (chosen Runs (eqb y.s x.vs) _ _ (λ t. runs_done) (λ f. runs_then _ (runs_double (drop x.place l) x.vt x.place) (λ v. runs_done)))
    (λ v. runs_then _ (runs_shifts _ _ (drop v.1 l) _) (λ z. runs_settle l (z.beside % 256) z.value z.place))

pub runs_step : (l : List ℕ) (x : State) (g : Guess) → Runs (step_of l x g)
unfolding step_of
runs_step l x g = chosen Runs (misses_of x (split_of x (g.lg / 4))) _ _ (λ t. runs_then _ (runs_unpredicted l x (split_of x (g.lg / 4))) (λ z. runs_done)) (λ f. runs_done)
