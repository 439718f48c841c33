-- The front page: the rule of the tables, for each of the three rates, and no two rates have one w.
use Prim.Native.Nat.{ℕ}
use mathlib.Core.Path.{◌≡◌, refl}
use mathlib.Core.Bool.{cond}
use lib.Dec.{eqb}
use Rattle.answers.specs.Answers.{OneToOne}
use Rattle.answers.proofs.OutcomeLaws.{undone}
use Rattle.rates.specs.Rates.{w_of}
use Rattle.rates.specs.Tables.{table_of}
use Rattle.rates.specs.Claims.{Rule}
use Rattle.rates.specs.declared.Rate.{Rate}
use Rattle.rates.specs.declared.Rate.TheVariants.{Three, Four, Five}
use Rattle.rates.proofs.RateLaws.{of_each}
use Rattle.rates.proofs.TableLaws as tables

pub rule : (r : Rate) → Rule (w_of r) (table_of r)
rule = tables.rule

pub rate_one_to_one : OneToOne w_of
rate_one_to_one = undone w_of back (of_each (λ r. back (w_of r) ≡ r) (refl, (refl, (refl, tt))))
  where
    back : ℕ → Rate
    back w = cond (eqb w 3) Three (cond (eqb w 4) Four Five)
