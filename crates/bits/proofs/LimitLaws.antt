-- The laws of an answer about a payload that is TOO LONG over the limit, and within it that of the payload's bits.
use Prim.Native.Nat.{ℕ, ◌≤◌, ◌<◌}
use mathlib.Core.Path.{◌≡◌, sym, subst, ◌∙◌}
use mathlib.Core.Logic.{◌↔◌}
use mathlib.Core.List.{List, []}
use native.Mathlib.Omega.{arith}
use borrow.Author.Tests.{leb-true, leb-false}
use lib.Dec.{leb}
use lib.ListN.{length}
use Rattle.answers.specs.Answers.{Outcome, refused, TOO_LONG}
use Rattle.answers.specs.Limits.{longest_payload}
use Rattle.answers.specs.Missing.{SaysMissing, says_none}
use Rattle.bits.proofs.TestLaws.{by_test}

module _ {A : Type 0} (bytes : List ℕ) (whole inside : Outcome A) (within : length bytes ≤ longest_payload → whole ≡ inside)
    (over : longest_payload < length bytes → whole ≡ refused TOO_LONG []) where
  -- an answer that is not TOO LONG is that of the bits
  pub of_bits : (o : Outcome A) → whole ≡ o → (refused TOO_LONG [] ≡ o → ⊥) → (length bytes ≤ longest_payload) × (inside ≡ o)
  of_bits o e h =
      by_test (leb (length bytes) longest_payload) (λ t. let k = leb-true _ _ t in (k, sym (within k) ∙ e)) (λ f. absurd (h (sym (over (leb-false _ _ f)) ∙ e)))

  pub long_exactly : (inside ≡ refused TOO_LONG [] → ⊥) → (whole ≡ refused TOO_LONG []) ↔ (longest_payload < length bytes)
  long_exactly never = (
    λ e. by_test (leb (length bytes) longest_payload) (λ t. absurd (never (sym (within (leb-true _ _ t)) ∙ e))) (λ f. leb-false _ _ f),
    over,
  )

  pub says_whole : SaysMissing inside → SaysMissing whole
  says_whole s =
      by_test (leb (length bytes) longest_payload) (λ t. subst SaysMissing (sym (within (leb-true _ _ t))) s)
      (λ f. subst SaysMissing (sym (over (leb-false _ _ f))) (says_none TOO_LONG (λ z. omega arith)))
