-- The laws of words: those of the table, and that what is read is the table's entry.
use Prim.Native.Nat.{ℕ, zero, suc, ◌+◌, ◌≤◌, ◌<◌}
use mathlib.Core.Path.{◌≡◌, refl, ap}
use mathlib.Core.List.{List, [], ◌∷◌}
use mathlib.Core.Bool.{Bool, true}
use native.Mathlib.Omega.{arith}
use borrow.Author.Tests.{eqb-true}
use lib.Dec.{eqb}
use lib.ListN.{get_or}
use Rattle.bits.specs.Lists.{All}
use Rattle.bits.proofs.TestLaws.{all_below, at_each}
use Rattle.rates.specs.Rates.{next_lg, w_of, rates}
use Rattle.rates.specs.declared.Rate.{Rate}
use Rattle.rates.proofs.RateLaws.{of_each}
use Rattle.entries.specs.declared.Words.{Words}
use Rattle.entries.specs.Inside.{words_of, read_of}

-- the words of n numbers from k on
unfoldable pub words_from : ℕ → ℕ → List Words
words_from k zero = []
words_from k (suc n) = words_of k ∷ words_from (suc k) n

pub words_within : (k n i m : ℕ) (d : Words) → i < n → k + i ≡ m → get_or (words_from k n) i d ≡ words_of m
unfolding words_from
words_within k zero i m d h e = absurd (omega arith)
words_within k (suc n) zero m d h e = ap words_of (omega arith)
words_within k (suc n) (suc i) m d h e = words_within (suc k) n i m d (omega arith) (omega arith)

-- ── what is read is the table's entry ──

entry_read : Rate → ℕ → Bool
entry_read r lg = eqb (read_of (w_of r) lg) (next_lg (w_of r) lg)

tested : All (λ r. all_below 1024 (entry_read r) ≡ true) rates
unfolding entry_read
tested = (refl, (refl, (refl, tt)))

pub read_is : (r : Rate) (lg : ℕ) → lg ≤ 1023 → read_of (w_of r) lg ≡ next_lg (w_of r) lg
unfolding entry_read
read_is r lg h = eqb-true _ _ (at_each 1024 (entry_read r) (of_each (λ r. all_below 1024 (entry_read r) ≡ true) tested r) lg (omega arith))
