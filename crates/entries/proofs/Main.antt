-- The front page: which entries are given, what they are, and that none is over 1023.
use Prim.Native.Nat.{ℕ, ◌≤◌, ◌<◌}
use mathlib.Core.Path.{◌≡◌, sym, ◌∙◌}
use Rattle.std.proofs.Common.{Some, None}
use Rattle.std.proofs.lemmas.Option.{none-some}
use native.Mathlib.Omega.{arith}
use borrow.Author.Tests.{leb-true, leb-false}
use lib.Dec.{leb}
use Rattle.bits.proofs.TestLaws.{by_test}
use Rattle.rates.specs.Rates.{next_lg, w_of}
use Rattle.rates.specs.declared.Rate.{Rate}
use Rattle.rates.proofs.TableLaws.{table_entry, table_none, rule}
use Rattle.entries.specs.Entries.{entry_of}

pub entry_given : (r : Rate) (k : ℕ) → k ≤ 1023 → entry_of r k ≡ Some (next_lg (w_of r) k)
entry_given r k h = table_entry r k h

pub entry_not_given : (r : Rate) (k : ℕ) → 1023 < k → entry_of r k ≡ None
entry_not_given r k h = table_none r k h

pub entry_bounded : (r : Rate) (k lg : ℕ) → entry_of r k ≡ Some lg → lg ≤ 1023
entry_bounded r k lg e =
    let h = (rule r).bounded k lg e in
    by_test (leb k 1023)
    (λ t. let l = leb-true k 1023 t in omega arith)
    (λ t. absurd (none-some lg (sym (table_none r k (leb-false k 1023 t)) ∙ e)))
