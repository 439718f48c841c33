-- Document 02, E9: the rule of a table, once for all rates.
use Rattle.std.specs.Prelude.{ℕ, suc, ◌≤◌, ◌≡◌, List, length, Some}
use Rattle.std.specs.List.{slice_get}
use Rattle.rates.specs.Rates.{next_lg}

-- "Over the whole table the entry is the formula's value, never larger than its index, at least 4 from index 4 on, and differs from the
-- next entry by at most one."
pub record Rule (w : ℕ) (table : List ℕ) : Type 0 where
  pub whole : length table ≡ 1024
  pub formula : (k x : ℕ) → slice_get table k ≡ Some x → x ≡ next_lg w k
  pub bounded : (k x : ℕ) → slice_get table k ≡ Some x → x ≤ k
  pub least : (k x : ℕ) → slice_get table k ≡ Some x → 4 ≤ k → 4 ≤ x
  pub near : (k x y : ℕ) → slice_get table k ≡ Some x → slice_get table (suc k) ≡ Some y → (x ≤ suc y) × (y ≤ suc x)
