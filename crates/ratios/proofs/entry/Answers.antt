-- The element at the code's place, by the rule of every such table.
use mathlib.Core.Path.{◌≡◌, sym, ◌∙◌}
use mathlib.Core.List.{List}
use native.Mathlib.Omega.{arith}
use Prim.Native.Nat.{ℕ, ◌≤◌, ◌<◌}
use denote.Bor.{Bor}
use lib.ListN.{length}
use Rattle.std.proofs.Common.{Option, None, Some}
use Rattle.std.specs.Option.{MatchOption, option_copied}
use Rattle.std.specs.List.{slice_get, HoldsAt}
use Rattle.std.proofs.lemmas.Grind.{common_steps}
use Rattle.std.proofs.lemmas.Option.{gets, slice_get_past}
use Rattle.ratios.specs.declared.Fraction.{Fraction}
use Rattle.ratios.proofs.RatioLaws.{entry_at, entry_low}
use Rattle.ratios.proofs.entry.Goals as goal

copied : (r : Option (Bor Fraction)) (fs : List Fraction) (i : ℕ)
    → MatchOption r (length fs ≤ i) (λ x. (i < length fs) × HoldsAt (λ y. x.now ≡ y) fs i) → option_copied r ≡ slice_get fs i
copied None fs i h = sym (slice_get_past fs i h)
copied (Some x) fs i h = grind (arith, common_steps, gets)

pub returns-in_err-i : goal.returns-in_err-i
returns-in_err-i c = let a = c.args in let h = c.in_err-i.ensures in c.from_residual.ensures ∙ entry_low a.first a.table.now a.code (omega arith)

pub returns : goal.returns
returns c =
    let a = c.args in
    let h = c.in_ok-i.ensures in
    c.copied.ensures ∙ copied _ a.table.now c.in_ok-i.i c.get.ensures.lookup.3 ∙ entry_at a.first a.table.now a.code c.in_ok-i.i (omega arith)
