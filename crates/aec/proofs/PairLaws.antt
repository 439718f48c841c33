-- The laws of the prediction of two contexts.
use Prim.Native.Nat.{◌+◌, ◌-◌, ◌/◌, ◌≤◌, ◌<◌}
use mathlib.Core.Path.{◌≡◌}
use native.Mathlib.Omega.{arith}
use borrow.Author.Tests.{lt-ltb, le-ltb, eq-eqb, ne_eqb}
use lib.Dec.{ltb, eqb}
use Rattle.bits.proofs.TestLaws.{chosen}
use Rattle.contexts.specs.declared.Context.{Context}
use Rattle.contexts.proofs.ContextLaws.{ContextRanges}
use Rattle.aec.specs.Bins.{Guess, pair_of}

-- the ranges of a prediction
pub record Predicts (g : Guess) : Type 0 where
  pub bin : g.p ≤ 1
  pub low : 4 ≤ g.lg
  pub high : g.lg ≤ 1023

pub pair_same : (a b : Context) → a.mps ≡ b.mps → record { p = a.mps; lg = (a.lg + b.lg) / 2 } ≡ pair_of a b
unfolding pair_of
pair_same a b h = simp (eq-eqb _ _ h)

pub pair_first : (a b : Context) → (a.mps ≡ b.mps → ⊥) → a.lg < b.lg → record { p = a.mps; lg = 1023 - (b.lg - a.lg) / 2 } ≡ pair_of a b
unfolding pair_of
pair_first a b h k = simp (ne_eqb _ _ h, lt-ltb _ _ k)

pub pair_second : (a b : Context) → (a.mps ≡ b.mps → ⊥) → b.lg ≤ a.lg → record { p = b.mps; lg = 1023 - (a.lg - b.lg) / 2 } ≡ pair_of a b
unfolding pair_of
pair_second a b h k = simp (ne_eqb _ _ h, le-ltb _ _ k)

pub pair_predicts : (a b : Context) → ContextRanges a → ContextRanges b → Predicts (pair_of a b)
unfolding pair_of
pair_predicts a b r s =
    chosen Predicts (eqb a.mps b.mps) _ _ (λ t. record { bin = r.mps; low = omega arith; high = omega arith })
    (λ t. chosen Predicts (ltb a.lg b.lg) _ _ (λ u. record { bin = r.mps; low = omega arith; high = omega arith }) (λ u. record { bin = s.mps; low = omega arith; high = omega arith }))
