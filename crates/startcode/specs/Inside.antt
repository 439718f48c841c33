-- What the private functions promise one another; no part of document 01.
use Rattle.std.specs.Prelude.{ℕ, ◌+◌, ◌≤◌, ◌<◌, ◌≡◌, List, length, drop}
use Rattle.startcode.specs.Prefix.{next_prefix, steps}

-- the search from a place ended there, after so many steps
pub record Found (stream : List ℕ) (from place taken : ℕ) : Type 0 where
  pub first : place ≡ next_prefix stream from
  pub counted : taken ≡ steps (drop from stream)

-- so many steps lead from a place to another: what is found from either is the same, and the steps from the first are these and
-- those from the second
pub record Leads (stream : List ℕ) (from place taken : ℕ) : Type 0 where
  pub onward : from + taken ≤ place
  pub same : next_prefix stream from ≡ next_prefix stream place
  pub counted : steps (drop from stream) ≡ taken + steps (drop place stream)

-- a run of steps: from the place after one byte of the stream to the place after another
pub record Runs (stream : List ℕ) (from third taken : ℕ) : Type 0 where
  pub inside : third < length stream
  pub leads : Leads stream (from + 1) (third + 1) taken
