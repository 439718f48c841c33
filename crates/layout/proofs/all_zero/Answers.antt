-- `all` tests what the definition says, byte by byte.
use Rattle.std.proofs.Common.{ℕ, eqb, ◌&&◌, refl, ◌∙◌, rules, tests}
use Rattle.std.specs.List.{list_all}
use Rattle.std.proofs.lemmas.Iterator.{YieldsList-from_slice}
use Rattle.std.proofs.lemmas.Iterator.Search.{all_from_yields_List}
use Rattle.std.proofs.lemmas.List.Recursion.{same_from_clauses}
use Rattle.layout.specs.Reader.{all_zero}
use Rattle.layout.proofs.all_zero.Goals as goal

pub returns : goal.returns
returns c =
    let bytes = c.args.bytes.now in
    all_from_yields_List (λ (x : ℕ). eqb x 0) _ _ _ c.all.ensures.ran (YieldsList-from_slice bytes cc) (λ x b q k. search (rules, tests))
    ∙ same_from_clauses (list_all (λ (x : ℕ). eqb x 0)) all_zero (λ x t. eqb x 0 && t) refl (λ _ _. refl) (λ _ _. refl) bytes
