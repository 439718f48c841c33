-- The laws of the steps: what is refused first, s, t and R, what valueT becomes.
use Rattle.std.proofs.Common.{Ok}
use Prim.Native.Nat.{ℕ, ◌+◌, ◌-◌, ◌/◌, ◌≤◌, ◌<◌}
use mathlib.Core.Path.{◌≡◌, sym, ap, ◌∙◌}
use mathlib.Core.List.{List, []}
use mathlib.Core.Bool.{Bool, true, false, ◌&&◌, true≢false, or-false}
use native.Mathlib.Omega.{arith}
use borrow.Author.Tests.{le-leb, lt-leb, lt-ltb, le-ltb, eq-eqb, ne_eqb, leb-true, leb-false, eqb-true, eqb-false}
use lib.Dec.{leb, ltb, eqb}
use lib.ListN.{length, drop, length-take}
use Rattle.answers.specs.Answers.{Outcome, done, refused, TOO_LONG, BAD_STATE, and_then}
use Rattle.answers.specs.Limits.{longest_payload}
use Rattle.bits.specs.Bits.{payload, read_at}
use Rattle.bits.specs.Lists.{All}
use Rattle.std.proofs.lemmas.Bool.{and_parts}
use Rattle.bits.proofs.TestLaws.{by_test}
use Rattle.bits.proofs.BitLaws.{Binary, length_in}
use Rattle.bits.proofs.Main.{read_exactly}
use Rattle.aec.specs.Bins.{good_state, within_limit, refused_first, double_of, split_of, misses_of, remainder_of, unpredicted_of, bin_of, step_of}
use Rattle.aec.specs.declared.State.{State}
use Rattle.aec.specs.Bins.{Parts}
use Rattle.aec.specs.Bins.{Guess}
use Rattle.aec.specs.declared.Refusal.{Refusal}
use Rattle.aec.specs.Says.{refusal_says}
use Rattle.answers.proofs.OutcomeLaws.{stops, goes, then_done}
use Rattle.bits.proofs.TestLaws.{chosen}
use Rattle.aec.proofs.ShiftLaws.{taken}

-- ── what is refused first ──

module _ (bytes : List ℕ) where
  pub limit_passed : {A : Type 0} (answer : Outcome A) → longest_payload < length bytes → refused TOO_LONG [] ≡ and_then (within_limit bytes) (λ _. answer)
  unfolding within_limit
  limit_passed answer h = simp (lt-leb _ _ h)

  pub limit_kept : {A : Type 0} (answer : Outcome A) → length bytes ≤ longest_payload → answer ≡ and_then (within_limit bytes) (λ _. answer)
  unfolding within_limit
  limit_kept answer h = simp (le-leb _ _ h)

  pub limit_held : within_limit bytes ≡ done tt → length bytes ≤ longest_payload
  unfolding within_limit
  limit_held e = by_test (leb (length bytes) longest_payload) (leb-true _ _) (λ f. let z : ◌≡◌ {A = ℕ} 0 1 = cc in absurd (omega arith))

module _ (bytes : List ℕ) (count : ℕ) (x : State) (contexts : Bool) where
  pub first_long : longest_payload < length bytes → refused TOO_LONG [] ≡ refused_first bytes count x contexts
  unfolding refused_first
  first_long h = limit_passed bytes _ h

  pub first_bad : length bytes ≤ longest_payload → (good_state (length (payload bytes count)) x && contexts) ≡ false → refused BAD_STATE [] ≡ refused_first bytes count x contexts
  unfolding refused_first
  first_bad h k = simp k (limit_kept bytes _ h)

  pub first_fine : length bytes ≤ longest_payload → (good_state (length (payload bytes count)) x && contexts) ≡ true → done tt ≡ refused_first bytes count x contexts
  unfolding refused_first
  first_fine h k = simp k (limit_kept bytes _ h)

  -- what holds of what was not refused
  pub first_held : refused_first bytes count x contexts ≡ done tt → (length bytes ≤ longest_payload) × (good_state (length (payload bytes count)) x ≡ true) × (contexts ≡ true)
  unfolding refused_first
  first_held e =
      let c = then_done (within_limit bytes) _ tt e in
      let good = good_state (length (payload bytes count)) x && contexts in
      let k : good ≡ true = by_test good (λ t. t) (λ f. let z : ◌≡◌ {A = ℕ} 0 1 = cc c.to in absurd (omega arith)) in
      let b = and_parts _ _ k in
      (limit_held bytes c.from, b.0, b.1)

-- ── the first nine bits ──

-- nine bits that were read are there
pub nine_bits : (bytes : List ℕ) (count v : ℕ) → read_at (payload bytes count) 0 9 ≡ Ok v → (9 ≤ length (payload bytes count)) × (v < 512)
nine_bits bytes count v e =
    let r = (read_exactly bytes count 0 9 v).0 e in
    let n = sym (length-take 9 (payload bytes count)) ∙ ap length r.1 ∙ length_in 9 v in
    (omega arith, r.0)

-- ── s, t and R ──

-- the ranges of t and R
pub record SplitRanges (y : Parts) : Type 0 where
  pub t : y.t ≤ 255
  pub low : 1 ≤ y.range
  pub high : y.range < 512

pub split_fits : (x : State) (q : ℕ) → q ≤ x.rt → record { s = x.rs; t = x.rt - q; range = q } ≡ split_of x q
unfolding split_of
split_fits x q h = simp (le-leb _ _ h)

pub split_over : (x : State) (q : ℕ) → x.rt < q → record { s = x.rs + 1; t = 256 + x.rt - q; range = x.rt + q } ≡ split_of x q
unfolding split_of
split_over x q h = simp (lt-leb _ _ h)

pub split_ranges : (x : State) (q : ℕ) → x.rt ≤ 255 → 1 ≤ q → q ≤ 255 → SplitRanges (split_of x q)
unfolding split_of
split_ranges x q h i j =
    chosen SplitRanges (leb q x.rt) _ _
    (λ t. let k = leb-true q x.rt t in record { t = omega arith; low = omega arith; high = omega arith })
    (λ t. let k = leb-false q x.rt t in record { t = omega arith; low = omega arith; high = omega arith })

-- ── whether the bin was predicted ──

module _ (x : State) (y : Parts) where
  pub misses_apart : (y.s ≡ x.vs → ⊥) → ltb x.vs y.s ≡ misses_of x y
  unfolding misses_of
  misses_apart h = simp (ne_eqb _ _ h, or-false)

  pub misses_even : y.s ≡ x.vs → leb y.t x.vt ≡ misses_of x y
  unfolding misses_of
  misses_even h = simp (le-ltb x.vs y.s (omega arith), eq-eqb _ _ h)

  -- what a miss and a hit say
  pub missed : misses_of x y ≡ true → y.s ≡ x.vs → y.t ≤ x.vt
  missed e h = leb-true _ _ (misses_even h ∙ e)

  pub not_missed : misses_of x y ≡ false → y.s ≤ x.vs
  not_missed e =
      by_test (leb y.s x.vs) (leb-true _ _)
      (λ f.
      let past = leb-false y.s x.vs f in
      let z : true ≡ false = sym (lt-ltb _ _ past) ∙ misses_apart (λ even. omega arith) ∙ e in
      absurd (true≢false z))

-- ── what valueT becomes ──

module _ (l : List ℕ) (x : State) (y : Parts) where
  pub remainder_even : y.s ≡ x.vs → done (x.vt - y.t, x.place) ≡ remainder_of l x y
  unfolding remainder_of
  remainder_even h = simp (eq-eqb _ _ h)

  pub remainder_past : (y.s ≡ x.vs → ⊥)
      → remainder_of l x y ≡ and_then (double_of (drop x.place l) x.vt x.place) (λ v. done (256 + v.0 - y.t, v.1))
  unfolding remainder_of
  remainder_past h = simp (ne_eqb _ _ h)

  pub remainder_within : (v : ℕ × ℕ) → All Binary l → x.vt ≤ 255 → x.place ≤ length l → remainder_of l x y ≡ done v
      → (v.0 < 768) × (x.place ≤ v.1) × (v.1 ≤ length l)
  remainder_within v h i j e =
      by_test (eqb y.s x.vs)
      (λ t.
      let p : ◌≡◌ {A = ℕ × ℕ} (x.vt - y.t, x.place) v = cc (remainder_even (eqb-true _ _ t)) in
      let a = ap (λ q. q.0) p in
      let b = ap (λ q. q.1) p in
      (omega arith, omega arith, omega arith))
      (λ f.
      let c = then_done (double_of (drop x.place l) x.vt x.place) _ v (sym (remainder_past (eqb-false _ _ f)) ∙ e) in
      let k = taken l x.vt x.place c.value.0 c.value.1 h c.from in
      let p : ◌≡◌ {A = ℕ × ℕ} (256 + c.value.0 - y.t, c.value.1) v = cc c.to in
      let a = ap (λ q. q.0) p in
      let b = ap (λ q. q.1) p in
      (omega arith, omega arith, omega arith))

-- ── one bin ──

module _ (l : List ℕ) (x : State) (p : ℕ) (y : Parts) where
  pub bin_hit : misses_of x y ≡ false → done (p, record { rs = y.s; rt = y.t; vs = x.vs; vt = x.vt; place = x.place }) ≡ bin_of l x p y
  bin_hit h = simp h

  pub bin_missed : misses_of x y ≡ true → and_then (unpredicted_of l x y) (λ next. done (1 - p, next)) ≡ bin_of l x p y
  bin_missed h = simp h

  pub bin_miss : (next : State) → misses_of x y ≡ true → done next ≡ unpredicted_of l x y → done (1 - p, next) ≡ bin_of l x p y
  bin_miss next h e = goes (λ next. done (1 - p, next)) e ∙ bin_missed h

  pub bin_stops : (r : Refusal) → misses_of x y ≡ true → refusal_says r ≡ unpredicted_of l x y → refusal_says r ≡ bin_of l x p y
  bin_stops r h e = stops (λ next. done (1 - p, next)) e ∙ bin_missed h

-- a bin of the range that the prediction splits
pub step_is : (l : List ℕ) (x : State) (g : Guess) (y : Parts) → y ≡ split_of x (g.lg / 4) → bin_of l x g.p y ≡ step_of l x g
unfolding step_of
step_is l x g y is = ap (bin_of l x g.p) is
