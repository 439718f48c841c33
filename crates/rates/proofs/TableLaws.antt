-- The laws of the tables: an entry is the formula's value, and the rule, by one computed test over the list of tables.
use Prim.Native.Nat.{ℕ, zero, suc, ◌+◌, ◌≤◌, ◌<◌, min}
use mathlib.Core.Path.{◌≡◌, refl, sym, ap, ◌∙◌, subst}
use mathlib.Core.Bool.{Bool, true, ◌&&◌}
use mathlib.Core.List.{List, [], ◌∷◌}
use Rattle.std.proofs.Common.{Some, None}
use Rattle.std.specs.List.{slice_get}
use Rattle.std.proofs.lemmas.Option.{none-some}
use native.Mathlib.Omega.{arith}
use native.Mathlib.Nat.{add-zero}
use borrow.Author.Tests.{leb-true, eqb-true}
use lib.Dec.{leb, eqb}
use lib.ListN.{length}
use Rattle.bits.specs.Lists.{All}
use Rattle.std.proofs.lemmas.Bool.{and_parts}
use Rattle.rates.specs.Rates.{next_lg, w_of, rates}
use Rattle.rates.specs.Tables.{next_lgs, table_of}
use Rattle.rates.specs.Claims.{Rule}
use Rattle.rates.specs.declared.Rate.{Rate}
use Rattle.rates.proofs.RateLaws.{of_each}

-- ── an entry is the formula's value ──

from_entry : (w lg n k : ℕ) → k < n → slice_get (next_lgs w lg n) k ≡ Some (next_lg w (lg + k))
unfolding next_lgs
from_entry w lg zero k h = absurd (omega arith)
from_entry w lg (suc n) zero h = ap (λ i. Some (next_lg w i)) (sym (add-zero lg))
from_entry w lg (suc n) (suc k) h = from_entry w (suc lg) n k (omega arith) ∙ ap (λ i. Some (next_lg w i)) (omega arith)

from_none : (w lg n k : ℕ) → n ≤ k → slice_get (next_lgs w lg n) k ≡ None
unfolding next_lgs
from_none w lg zero k h = refl
from_none w lg (suc n) zero h = absurd (omega arith)
from_none w lg (suc n) (suc k) h = from_none w (suc lg) n k (omega arith)

pub table_entry : (r : Rate) (k : ℕ) → k ≤ 1023 → slice_get (table_of r) k ≡ Some (next_lg (w_of r) k)
unfolding table_of
table_entry r k h = from_entry (w_of r) 0 1024 k (omega arith) ∙ ap (λ i. Some (next_lg (w_of r) i)) (omega arith)

pub table_none : (r : Rate) (k : ℕ) → 1023 < k → slice_get (table_of r) k ≡ None
unfolding table_of
table_none r k h = from_none (w_of r) 0 1024 k (omega arith)

-- ── the rule, as a test ──

near : ℕ → List ℕ → Bool
near x [] = true
near x (y ∷ ys) = leb x (suc y) && leb y (suc x)

-- an entry x at k, before others
entry_obeys : ℕ → ℕ → ℕ → List ℕ → Bool
entry_obeys w k x xs = eqb x (next_lg w k) && leb x k && leb (min 4 k) x && near x xs

obeys : ℕ → ℕ → List ℕ → Bool
obeys w k [] = true
obeys w k (x ∷ xs) = entry_obeys w k x xs && obeys w (suc k) xs

table_obeys : Rate → Bool
table_obeys r = eqb (length (table_of r)) 1024 && obeys (w_of r) 0 (table_of r)

tested : All (λ r. table_obeys r ≡ true) rates
unfolding table_obeys obeys entry_obeys near table_of next_lgs
tested = (refl, (refl, (refl, tt)))

-- ── from the test to the rule ──

record Obeys (w k x : ℕ) : Type 0 where
  formula : x ≡ next_lg w k
  bounded : x ≤ k
  least : min 4 k ≤ x

Near : ℕ → ℕ → Type 0
Near x y = (x ≤ suc y) × (y ≤ suc x)

entry_obeys_lem : (w k x : ℕ) (xs : List ℕ) → entry_obeys w k x xs ≡ true → (Obeys w k x) × (near x xs ≡ true)
unfolding entry_obeys
entry_obeys_lem w k x xs t =
    let a = and_parts _ _ t in
    let b = and_parts _ _ a.0 in
    let d = and_parts _ _ b.0 in
    (record { formula = eqb-true _ _ d.0; bounded = leb-true _ _ d.1; least = leb-true _ _ b.1 }, a.1)

obeys_both : (w k x : ℕ) (xs : List ℕ) → obeys w k (x ∷ xs) ≡ true → (entry_obeys w k x xs ≡ true) × (obeys w (suc k) xs ≡ true)
unfolding obeys
obeys_both w k x xs t = and_parts (entry_obeys w k x xs) (obeys w (suc k) xs) t

obeys_at : (w i : ℕ) (xs : List ℕ) → obeys w i xs ≡ true → (k x : ℕ) → slice_get xs k ≡ Some x → Obeys w (i + k) x
obeys_at w i [] t k x e = absurd (none-some x e)
obeys_at w i (y ∷ ys) t zero x e =
    let h = entry_obeys_lem w i y ys (obeys_both w i y ys t).0 in
    let same : y ≡ x = cc e in
    let here : i ≡ i + 0 = omega arith in
    rw (← same, ← here) h.0
obeys_at w i (y ∷ ys) t (suc k) x e =
    let there : suc i + k ≡ i + suc k = omega arith in
    subst (λ j. Obeys w j x) there (obeys_at w (suc i) ys (obeys_both w i y ys t).1 k x e)

near_at : (w i : ℕ) (xs : List ℕ) → obeys w i xs ≡ true → (k x y : ℕ) → slice_get xs k ≡ Some x → slice_get xs (suc k) ≡ Some y → Near x y
unfolding near Near
near_at w i [] t k x y e f = absurd (none-some x e)
near_at w i (a ∷ []) t zero x y e f = absurd (none-some y f)
near_at w i (a ∷ b ∷ cs) t zero x y e f =
    let h = and_parts _ _ (entry_obeys_lem w i a (b ∷ cs) (obeys_both w i a (b ∷ cs) t).0).1 in
    let same : a ≡ x = cc e in
    let next : b ≡ y = cc f in
    rw (← same, ← next) (leb-true _ _ h.0, leb-true _ _ h.1)
near_at w i (a ∷ bs) t (suc k) x y e f = near_at w (suc i) bs (obeys_both w i a bs t).1 k x y e f

table_rule : (r : Rate) → table_obeys r ≡ true → Rule (w_of r) (table_of r)
unfolding table_obeys Near
table_rule r t =
    let a = and_parts _ _ t in
    record {
      whole = eqb-true _ _ a.0;
      formula = λ k x e. (obeys_at (w_of r) 0 (table_of r) a.1 k x e).formula ∙ ap (next_lg (w_of r)) (omega arith);
      bounded = λ k x e. let h = (obeys_at (w_of r) 0 (table_of r) a.1 k x e).bounded in omega arith;
      least = λ k x e h. let l = (obeys_at (w_of r) 0 (table_of r) a.1 k x e).least in omega arith;
      near = λ k x y e f. near_at (w_of r) 0 (table_of r) a.1 k x y e f;
    }

pub rule : (r : Rate) → Rule (w_of r) (table_of r)
rule r = table_rule r (of_each (λ r. table_obeys r ≡ true) tested r)
