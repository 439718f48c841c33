-- The laws of contexts: ranges, and the update.
use Prim.Native.Nat.{ℕ, ◌+◌, ◌-◌, ◌≤◌, ◌<◌}
use mathlib.Core.Path.{◌≡◌, sym}
use mathlib.Core.Bool.{Bool, true, false}
use native.Mathlib.Omega.{arith}
use borrow.Author.Tests.{le-leb, lt-leb, leb-true, leb-false}
use lib.Dec.{leb, eqb}
use Rattle.std.proofs.lemmas.Bool.{and_parts}
use Rattle.bits.proofs.TestLaws.{chosen}
use Rattle.rates.specs.Rates.{rate_of, gain_of, next_lg}
use Rattle.rates.proofs.RateLaws.{rate_within, gain_within, next_lg_within}
use Rattle.contexts.specs.Contexts.{good_context, fresh_context, next_cycno, fold_of, update_of, updated_of}
use Rattle.contexts.specs.declared.Context.{Context}

-- ── ranges ──

pub record ContextRanges (c : Context) : Type 0 where
  pub mps : c.mps ≤ 1
  pub low : 4 ≤ c.lg
  pub high : c.lg ≤ 1023
  pub cycno : c.cycno ≤ 3

pub context_ranges : (c : Context) → good_context c ≡ true → ContextRanges c
unfolding good_context
context_ranges c e =
    let a = and_parts _ _ e in
    let b = and_parts _ _ a.0 in
    let d = and_parts _ _ b.0 in
    record { mps = leb-true _ _ d.0; low = leb-true _ _ d.1; high = leb-true _ _ b.1; cycno = leb-true _ _ a.1 }

pub ranges_context : (c : Context) → ContextRanges c → true ≡ good_context c
unfolding good_context
ranges_context c r = simp (le-leb _ _ r.mps, le-leb _ _ r.low, le-leb _ _ r.high, le-leb _ _ r.cycno)

-- ── the next cycno ──

pub cycno_within : (hit : Bool) (cycno : ℕ) → cycno ≤ 3 → next_cycno hit cycno ≤ 3
unfolding next_cycno
cycno_within hit cycno h = chosen (λ n. n ≤ 3) hit _ _ (λ t. chosen (λ n. n ≤ 3) (eqb cycno 0) 1 cycno (λ u. omega arith) (λ u. h)) (λ t. omega arith)

-- ── the update ──

module _ (c : Context) (bin w next : ℕ) (good : good_context c ≡ true) (rate-is : w ≡ rate_of c.cycno)
    (next_is : next ≡ next_cycno (eqb bin c.mps) c.cycno) where
  pub update_hit : eqb bin c.mps ≡ true → record { mps = c.mps; lg = next_lg w c.lg; cycno = next } ≡ updated_of c bin
  unfolding update_of
  update_hit h = rw (rate-is, next_is) (simp (good, h))

  pub update_more : eqb bin c.mps ≡ false → c.lg + gain_of w ≤ 1023 → record { mps = c.mps; lg = c.lg + gain_of w; cycno = next } ≡ updated_of c bin
  unfolding update_of fold_of
  update_more h k = rw (next_is, ← rate-is) (simp (good, h, le-leb _ _ k))

  pub update_fold : eqb bin c.mps ≡ false → 1023 < c.lg + gain_of w
      → record { mps = 1 - c.mps; lg = 2047 - (c.lg + gain_of w); cycno = next } ≡ updated_of c bin
  unfolding update_of fold_of
  update_fold h k = rw (next_is, ← rate-is) (simp (good, h, lt-leb _ _ k))

pub fold_ranges : (c : Context) → c.mps ≤ 1 → 4 ≤ c.lg → c.lg ≤ 2043 → c.cycno ≤ 3 → ContextRanges (fold_of c)
unfolding fold_of
fold_ranges c m l h n =
    chosen ContextRanges (leb c.lg 1023) c _
    (λ t. record { mps = m; low = l; high = leb-true _ _ t; cycno = n })
    (λ t. let k = leb-false c.lg 1023 t in record { mps = omega arith; low = omega arith; high = omega arith; cycno = n })

-- a context within its ranges stays so
pub update_ranges : (c : Context) (bin : ℕ) → ContextRanges c → ContextRanges (update_of c bin)
unfolding update_of
update_ranges c bin r =
    let w = rate_within c.cycno in
    let g = gain_within (rate_of c.cycno) in
    let n = cycno_within (eqb bin c.mps) c.cycno r.cycno in
    chosen ContextRanges (eqb bin c.mps) _ _
    (λ t. let l = next_lg_within (rate_of c.cycno) c.lg w.0 r.low in record { mps = r.mps; low = l.0; high = omega arith; cycno = n })
    (λ t. fold_ranges _ r.mps (omega arith) (omega arith) n)

-- ── good leads to good ──

pub fresh_good : good_context fresh_context ≡ true
fresh_good = sym (ranges_context fresh_context (record { mps = omega arith; low = omega arith; high = omega arith; cycno = omega arith }))

pub updated_good : (c : Context) (bin : ℕ) → good_context c ≡ true → good_context (update_of c bin) ≡ true
updated_good c bin h = sym (ranges_context _ (update_ranges c bin (context_ranges c h)))
