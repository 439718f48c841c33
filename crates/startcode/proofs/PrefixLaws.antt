-- The laws of kinds and of the search by index.
use Prim.Native.Nat.{ℕ, zero, suc, ◌+◌, ◌≤◌, ◌<◌, min}
use mathlib.Core.Path.{◌≡◌, refl, sym, ap, ◌∙◌}
use mathlib.Core.List.{List, [], ◌∷◌}
use mathlib.Core.Bool.{true, false, ◌&&◌}
use native.Mathlib.Omega.{arith}
use lib.Dec.{leb, eqb}
use lib.ListN.{length, get_or, drop, length-take, length-drop}
use lib.Seq.{get_or-drop}
use borrow.Author.Tests.{lt-leb, leb-true}
use Rattle.bits.proofs.ListLaws.{at_head}
use Rattle.bits.proofs.TestLaws.{by_test}
use Rattle.startcode.specs.Prefix.{begins, before, next_prefix}

-- ── kinds ──

-- another byte is outside the codes of a kind that has one code
pub outside : (byte c : ℕ) → (byte ≡ c → ⊥) → leb c byte && leb byte c ≡ false
outside byte c h =
    by_test (leb c byte)
    (λ t. let k = leb-true c byte t in rw (t, lt-leb byte c (omega arith)))
    (λ f. rw f)

-- ── the search ──

begins_of : (t : List ℕ) → 3 ≤ length t → begins t ≡ eqb (get_or t 0 0) 0 && (eqb (get_or t 1 0) 0 && eqb (get_or t 2 0) 1)
unfolding begins
begins_of [] h = absurd (omega arith)
begins_of (a ∷ []) h = absurd (omega arith)
begins_of (a ∷ b ∷ []) h = absurd (omega arith)
begins_of (a ∷ b ∷ c ∷ t) h = refl

-- the test at a place, in terms of the bytes there
pub begins_at : (s : List ℕ) (i : ℕ) → i + 2 < length s →
    begins (drop i s) ≡ eqb (get_or s i 0) 0 && (eqb (get_or s (i + 1) 0) 0 && eqb (get_or s (i + 2) 0) 1)
begins_at s i h =
    let z : i + 0 ≡ i = omega arith in
    begins_of (drop i s) (rw length-drop (omega arith)) ∙ simp (get_or-drop, z)

pub begins_short : (s : List ℕ) → length s < 3 → begins s ≡ false
unfolding begins
begins_short [] h = refl
begins_short (a ∷ []) h = refl
begins_short (a ∷ b ∷ []) h = refl
begins_short (a ∷ b ∷ c ∷ s) h = absurd (omega arith)

-- where three bytes are not left no prefix stands
pub begins_past : (s : List ℕ) (i : ℕ) → length s < i + 3 → begins (drop i s) ≡ false
begins_past s i h = begins_short (drop i s) (rw length-drop (omega arith))

pub search_start : (s : List ℕ) (from : ℕ) → next_prefix s from ≡ min from (length s) + before (drop from s)
unfolding next_prefix
search_start s from = rw length-take

pub before_hit : (a : ℕ) (t : List ℕ) → begins (a ∷ t) ≡ true → before (a ∷ t) ≡ 0
unfolding before
before_hit a t e = simp e

pub before_miss : (a : ℕ) (t : List ℕ) → begins (a ∷ t) ≡ false → before (a ∷ t) ≡ suc (before t)
unfolding before
before_miss a t e = simp e

pub search_hit : (s : List ℕ) (i : ℕ) → i < length s → begins (drop i s) ≡ true → min i (length s) + before (drop i s) ≡ i
search_hit s i h e =
    let d = at_head s i 0 h in
    let b : before (drop i s) ≡ 0 = ap before d ∙ before_hit _ _ (sym (ap begins d) ∙ e) in
    omega arith

-- where no prefix stands the search goes on from the next place
pub search_step : (s : List ℕ) (i : ℕ) → i < length s → begins (drop i s) ≡ false → next_prefix s i ≡ next_prefix s (i + 1)
search_step s i h e =
    let d = at_head s i 0 h in
    let b : before (drop i s) ≡ suc (before (drop (i + 1) s)) = ap before d ∙ before_miss _ _ (sym (ap begins d) ∙ e) in
    let from = search_start s i in
    let on = search_start s (i + 1) in
    omega arith

before_short : (t : List ℕ) → length t < 3 → before t ≡ length t
unfolding before begins
before_short [] h = refl
before_short (a ∷ []) h = refl
before_short (a ∷ b ∷ []) h = refl
before_short (a ∷ b ∷ c ∷ t) h = absurd (omega arith)

-- where fewer than three bytes are left the search ends
pub search_end : (s : List ℕ) (i : ℕ) → length s ≤ i + 2 → next_prefix s i ≡ length s
search_end s i h =
    let d = length-drop i s in
    let b = before_short (drop i s) (omega arith) in
    let from = search_start s i in
    omega arith

-- ── what stands where the search ends, and before it ──

pub before_le : (t : List ℕ) → before t ≤ length t
unfolding before
before_le [] = omega arith
before_le (a ∷ t) = let r = before_le t in by_test (begins (a ∷ t)) (λ e. rw e (omega arith)) (λ e. rw e (omega arith))

pub before_found : (t : List ℕ) → before t < length t → begins (drop (before t) t) ≡ true
before_found [] h = absurd (omega arith)
before_found (a ∷ t) h =
    let r = before_found t in
    by_test (begins (a ∷ t))
    (λ e. rw (before_hit a t e) e)
    (λ e. let b = before_miss a t e in rw b (r (omega arith)))

pub before_none : (t : List ℕ) (k : ℕ) → k < before t → begins (drop k t) ≡ false
unfolding before
before_none [] k h = absurd (omega arith)
before_none (a ∷ t) zero h = by_test (begins (a ∷ t)) (λ e. absurd (let b = before_hit a t e in omega arith)) (λ e. e)
before_none (a ∷ t) (suc k) h =
    let r = before_none t k in
    by_test (begins (a ∷ t))
    (λ e. absurd (let b = before_hit a t e in omega arith))
    (λ e. r (let b = before_miss a t e in omega arith))
