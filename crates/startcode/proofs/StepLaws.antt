-- The laws of the search by third bytes: what a step passes over, and how many there are.
use Prim.Native.Nat.{ℕ, zero, suc, ◌+◌, ◌*◌, ◌/◌, ◌≤◌, ◌<◌}
use mathlib.Core.Path.{◌≡◌, refl, sym, ap, ◌∙◌}
use mathlib.Core.List.{List, [], ◌∷◌, ◌++◌}
use mathlib.Core.Bool.{true, false, false≢true}
use native.Mathlib.Omega.{arith}
use lib.Dec.{leb, eqb}
use lib.ListN.{length, get_or, take, drop, length-take, length-drop, take-append-drop}
use borrow.Author.Tests.{eq-eqb, ne_eqb, eqb-true, leb-true, leb-false}
use Rattle.bits.specs.Lists.{All}
use Rattle.bits.proofs.ListLaws.{all_take, at_head}
use Rattle.std.proofs.lemmas.Bool.{and_parts}
use Rattle.bits.proofs.TestLaws.{by_test, contrary}
use Rattle.startcode.specs.Prefix.{begins, next_prefix, steps}
use Rattle.startcode.specs.Inside.{Found, Leads, Runs}
use Rattle.startcode.proofs.PrefixLaws.{begins_at, begins_short, search_start, search_hit, search_step, search_end}

-- ── how many steps ──

steps_short : (t : List ℕ) → length t < 3 → steps t ≡ 0
unfolding steps
steps_short [] h = refl
steps_short (a ∷ []) h = refl
steps_short (a ∷ b ∷ []) h = refl
steps_short (a ∷ b ∷ c ∷ t) h = absurd (omega arith)

-- each step goes past three bytes that are not 00, whatever comes after them
pub steps_over : (q : ℕ) (bytes rest : List ℕ) → length bytes ≡ q * 3 → All (λ (byte : ℕ). ¬ (byte ≡ 0)) bytes → steps (bytes ++ rest) ≡ q + steps rest
unfolding steps begins
steps_over zero [] rest e h = omega arith
steps_over zero (a ∷ t) rest e h = absurd (omega arith)
steps_over (suc q) [] rest e h = absurd (omega arith)
steps_over (suc q) (a ∷ []) rest e h = absurd (omega arith)
steps_over (suc q) (a ∷ b ∷ []) rest e h = absurd (omega arith)
steps_over (suc q) (a ∷ b ∷ c ∷ t) rest e h =
    let r = steps_over q t rest (omega arith) h.1.1.1 in
    simp (ne_eqb a 0 h.0, ne_eqb c 0 h.1.1.0) (omega arith)

pub few_steps : (bytes : List ℕ) → All (λ (byte : ℕ). ¬ (byte ≡ 0)) bytes → steps bytes ≤ length bytes / 3 + 1
few_steps bytes h =
    let q = length bytes / 3 in
    let t = length-take (q * 3) bytes in
    let d = length-drop (q * 3) bytes in
    let o = steps_over q (take (q * 3) bytes) (drop (q * 3) bytes) (omega arith) (all_take _ (q * 3) bytes h) in
    let s = steps_short (drop (q * 3) bytes) (omega arith) in
    let e = ap steps (take-append-drop (q * 3) bytes) in
    omega arith

-- a step goes past one place at least
pub most_steps : (bytes : List ℕ) → steps bytes ≤ length bytes
unfolding steps
most_steps [] = omega arith
most_steps (a ∷ []) = omega arith
most_steps (a ∷ b ∷ []) = omega arith
most_steps (a ∷ b ∷ c ∷ t) =
    let one = most_steps (b ∷ c ∷ t) in
    let three = most_steps t in
    by_test (begins (a ∷ b ∷ c ∷ t))
    (λ e. rw e (omega arith))
    (λ e. by_test (eqb c 0) (λ z. rw (e, z) (omega arith)) (λ z. rw (e, z) (omega arith)))

-- ── where no prefix stands ──

-- the bytes of a prefix at a place
pub record Stands (s : List ℕ) (i : ℕ) : Type 0 where
  pub first : get_or s i 0 ≡ 0
  pub second : get_or s (i + 1) 0 ≡ 0
  pub third : get_or s (i + 2) 0 ≡ 1

stands_in : (s : List ℕ) (i : ℕ) → begins (drop i s) ≡ true → i + 2 < length s → Stands s i
stands_in s i e h =
    let p = and_parts _ _ (sym (begins_at s i h) ∙ e) in
    let q = and_parts _ _ p.1 in
    record { first = eqb-true _ _ p.0; second = eqb-true _ _ q.0; third = eqb-true _ _ q.1 }

stands : (s : List ℕ) (i : ℕ) → begins (drop i s) ≡ true → Stands s i
stands s i e =
    let d = length-drop i s in
    by_test (leb (i + 3) (length s))
    (λ t. stands_in s i e (let k = leb-true (i + 3) (length s) t in omega arith))
    (λ f. contrary (begins (drop i s)) e (begins_short (drop i s) (let k = leb-false (i + 3) (length s) f in omega arith)))

misses : (s : List ℕ) (i : ℕ) → (Stands s i → ⊥) → begins (drop i s) ≡ false
misses s i none = by_test (begins (drop i s)) (λ e. absurd (none (stands s i e))) (λ e. e)

-- ── one step ──

steps_hit : (t : List ℕ) → begins t ≡ true → steps t ≡ 1
unfolding steps begins
steps_hit [] e = absurd (false≢true e)
steps_hit (a ∷ []) e = absurd (false≢true e)
steps_hit (a ∷ b ∷ []) e = absurd (false≢true e)
steps_hit (a ∷ b ∷ c ∷ t) e = simp e

steps_one : (a b c : ℕ) (t : List ℕ) → begins (a ∷ b ∷ c ∷ t) ≡ false → c ≡ 0 → steps (a ∷ b ∷ c ∷ t) ≡ suc (steps (b ∷ c ∷ t))
unfolding steps
steps_one a b c t e z = simp (e, eq-eqb _ _ z)

steps_three : (a b c : ℕ) (t : List ℕ) → begins (a ∷ b ∷ c ∷ t) ≡ false → (c ≡ 0 → ⊥) → steps (a ∷ b ∷ c ∷ t) ≡ suc (steps t)
unfolding steps
steps_three a b c t e z = simp (e, ne_eqb _ _ z)

-- ── from place to place ──

pub leads_none : (s : List ℕ) (i : ℕ) → Leads s i i 0
leads_none s i = record { onward = omega arith; same = refl; counted = omega arith }

-- steps and then more steps
pub leads_on : {s : List ℕ} {i j k m l place total : ℕ} → Leads s i j m → Leads s j k l → place ≡ k → total ≡ m + l → Leads s i place total
leads_on a b e f =
    let p = a.onward in
    let q = b.onward in
    let c = a.counted in
    let d = b.counted in
    rw e record { onward = omega arith; same = a.same ∙ b.same; counted = omega arith }

head_to : (s : List ℕ) (i j : ℕ) → j ≡ i + 1 → i < length s → drop i s ≡ get_or s i 0 ∷ drop j s
head_to s i j e h = rw e (at_head s i 0 h)

pass : (s : List ℕ) (i j : ℕ) → j ≡ i + 1 → i < length s → (Stands s i → ⊥) → next_prefix s i ≡ next_prefix s j
pass s i j e h none = rw e (search_step s i h (misses s i none))

-- one step, by the place of the third byte
module _ (s : List ℕ) (i third : ℕ) (e : third ≡ i + 2) (h : third < length s) where
  last_two : drop (i + 1) s ≡ get_or s (i + 1) 0 ∷ get_or s third 0 ∷ drop (i + 3) s
  last_two =
      head_to s (i + 1) third (omega arith) (omega arith)
      ∙ ap (◌∷◌ (get_or s (i + 1) 0)) (head_to s third (i + 3) (omega arith) h)

  all_three : drop i s ≡ get_or s i 0 ∷ get_or s (i + 1) 0 ∷ get_or s third 0 ∷ drop (i + 3) s
  all_three = head_to s i (i + 1) refl (omega arith) ∙ ap (◌∷◌ (get_or s i 0)) last_two

  byte_at : (k : ℕ) → k ≡ third → get_or s third 0 ≡ get_or s k 0
  byte_at k f = ap (λ (place : ℕ). get_or s place 0) (sym f)

  -- only a 01 ends a prefix
  misses_here : ¬ (get_or s third 0 ≡ 1) → begins (drop i s) ≡ false
  misses_here none = misses s i (λ p. none (byte_at (i + 2) (sym e) ∙ p.third))

  -- a third byte 00: past one place
  pub leads_one : get_or s third 0 ≡ 0 → Leads s i (i + 1) 1
  leads_one z =
      let m = misses_here (λ o. omega arith) in
      let k = steps_one _ _ _ _ (sym (ap begins all_three) ∙ m) z in
      let c : steps (drop i s) ≡ suc (steps (drop (i + 1) s)) = ap steps all_three ∙ k ∙ ap (λ (t : List ℕ). suc (steps t)) (sym last_two) in
      record { onward = omega arith; same = search_step s i (omega arith) m; counted = omega arith }

  -- any other third byte that ends no prefix: past three
  pub leads_three : begins (drop i s) ≡ false → (get_or s third 0 ≡ 0 → ⊥) → Leads s i (i + 3) 1
  leads_three m z =
      let c : steps (drop i s) ≡ suc (steps (drop (i + 3) s)) = ap steps all_three ∙ steps_three _ _ _ _ (sym (ap begins all_three) ∙ m) z in
      record {
        onward = omega arith;
        same =
            search_step s i (omega arith) m
            ∙ pass s (i + 1) third (omega arith) (omega arith) (λ p. z (byte_at (i + 1 + 1) (omega arith) ∙ p.second))
            ∙ pass s third (i + 3) (omega arith) h (λ p. z p.first);
        counted = omega arith;
      }

  pub leads_over : 1 < get_or s third 0 → Leads s i (i + 3) 1
  leads_over o = leads_three (misses_here (λ t. omega arith)) (λ z. omega arith)

-- one step more of a run
pub runs_on : {s : List ℕ} {from i taken third total : ℕ} → Runs s from i taken
    → third ≡ i + 3 → total ≡ taken + 1 → third < length s → 1 < get_or s third 0 → Runs s from third total
runs_on {i} r e f h o = record { inside = h; leads = leads_on r.leads (leads_over _ (i + 1) _ (omega arith) h o) (omega arith) f }

-- ── where the search ends ──

pub ends_there : {s : List ℕ} {from i taken : ℕ} → Leads s from i taken → i < length s → begins (drop i s) ≡ true → Found s from i (taken + 1)
ends_there {s} {i} l h e =
    let c = l.counted in
    let k = steps_hit (drop i s) e in
    record { first = sym (l.same ∙ search_start s i ∙ search_hit s i h e); counted = omega arith }

-- fewer than three bytes are left
pub ends_last : {s : List ℕ} {from i taken : ℕ} → Leads s from i taken → length s ≤ i + 2 → Found s from (length s) taken
ends_last {s} {i} l h =
    let c = l.counted in
    let d = length-drop i s in
    let k = steps_short (drop i s) (omega arith) in
    record { first = sym (l.same ∙ search_end s i h); counted = omega arith }
