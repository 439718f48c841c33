-- A table of fractions: each code from its first on has the element there, and a lower code none.
use Prim.Native.Nat.{ℕ, zero, suc, ◌+◌, ◌<◌}
use mathlib.Core.Path.{◌≡◌, refl}
use mathlib.Core.List.{List, [], ◌∷◌}
use native.Mathlib.Omega.{arith}
use borrow.Author.Tests.{eq-eqb, ne_eqb}
use Rattle.std.proofs.Common.{None}
use Rattle.std.specs.List.{slice_get}
use Rattle.ratios.specs.Ratios.{entry_of}
use Rattle.ratios.specs.declared.Fraction.{Fraction}

pub entry_at : (first : ℕ) (fs : List Fraction) (code i : ℕ) → code ≡ first + i → slice_get fs i ≡ entry_of first fs code
unfolding entry_of
entry_at first [] code i e = refl
entry_at first (f ∷ fs) code zero e = rw (eq-eqb code first (omega arith))
entry_at first (f ∷ fs) code (suc i) e = rw (ne_eqb code first (λ z. omega arith)) (entry_at (suc first) fs code i (omega arith))

pub entry_low : (first : ℕ) (fs : List Fraction) (code : ℕ) → code < first → None ≡ entry_of first fs code
unfolding entry_of
entry_low first [] code h = refl
entry_low first (f ∷ fs) code h = rw (ne_eqb code first (λ z. omega arith)) (entry_low (suc first) fs code (omega arith))
