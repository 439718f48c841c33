-- The front page: the tables give a context its lg after a bin that was its mps.
use Prim.Native.Nat.{ℕ}
use mathlib.Core.Path.{◌≡◌, sym, ap, ◌∙◌}
use mathlib.Core.Bool.{true}
use lib.Dec.{eqb}
use Rattle.rates.specs.Rates.{rate_of, next_lg, w_of}
use Rattle.rates.specs.declared.Rate.{Rate}
use Rattle.entries.specs.Entries.{entry_of}
use Rattle.std.proofs.Common.{Some}
use Rattle.entries.proofs.Main as entries
use Rattle.contexts.specs.Contexts.{good_context, update_of}
use Rattle.contexts.specs.declared.Context.{Context}
use Rattle.contexts.proofs.ContextLaws.{context_ranges}

pub update_by_table : (c : Context) (bin : ℕ) (r : Rate) → good_context c ≡ true → eqb bin c.mps ≡ true → w_of r ≡ rate_of c.cycno
    → entry_of r c.lg ≡ Some (update_of c bin).lg
unfolding update_of
update_by_table c bin r good hit rate-is =
    entries.entry_given r c.lg (context_ranges c good).high ∙ ap (λ w. Some (next_lg w c.lg)) rate-is ∙ sym (simp hit)
