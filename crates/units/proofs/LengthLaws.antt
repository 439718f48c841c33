-- The laws of a row's length: trailing zeros.
use Prim.Native.Nat.{ℕ, suc, ◌≤◌, ◌<◌, ◌-◌}
use mathlib.Core.Path.{◌≡◌, refl, sym, ◌∙◌, ap}
use mathlib.Core.List.{List, [], ◌∷◌, ◌++◌}
use lib.ListN.{length, get_or, take}
use lib.Seq.{take-suc, take-length}
use borrow.Author.Tests.{ne_eqb}
use native.Mathlib.Omega.{arith}
use Rattle.grammar.specs.Rows.{kept, trimmed}

trim_zero : (l : List ℕ) → trimmed (l ++ (0 ∷ [])) ≡ trimmed l
trim_zero [] = refl
trim_zero (x ∷ l) = ap (kept x) (trim_zero l)

kept_snoc : (y : ℕ) (l : List ℕ) (x : ℕ) → kept y (l ++ (x ∷ [])) ≡ y ∷ (l ++ (x ∷ []))
kept_snoc y [] x = refl
kept_snoc y (z ∷ l) x = refl

trim_not : (l : List ℕ) (x : ℕ) → (x ≡ 0 → ⊥) → trimmed (l ++ (x ∷ [])) ≡ l ++ (x ∷ [])
trim_not [] x h = simp (ne_eqb x 0 h)
trim_not (y ∷ l) x h = ap (kept y) (trim_not l x h) ∙ kept_snoc y l x

-- the last of the first n bytes
module _ (b : List ℕ) (n : ℕ) (h : 0 < n) (k : n ≤ length b) where
  last_is : take n b ≡ take (n - 1) b ++ (get_or b (n - 1) 0 ∷ [])
  last_is = let e : n ≡ suc (n - 1) = omega arith in ap (λ (x : ℕ). take x b) e ∙ take-suc b (n - 1) 0 (omega arith)

  pub trim_more : get_or b (n - 1) 0 ≡ 0 → trimmed (take n b) ≡ trimmed (take (n - 1) b)
  trim_more z = ap trimmed (last_is ∙ ap (λ (x : ℕ). take (n - 1) b ++ (x ∷ [])) z) ∙ trim_zero (take (n - 1) b)

  pub trim_end : (get_or b (n - 1) 0 ≡ 0 → ⊥) → trimmed (take n b) ≡ take n b
  trim_end z = ap trimmed last_is ∙ trim_not (take (n - 1) b) (get_or b (n - 1) 0) z ∙ sym last_is

pub trim_all : (b : List ℕ) → trimmed b ≡ trimmed (take (length b) b)
trim_all b = ap trimmed (sym (take-length b))
