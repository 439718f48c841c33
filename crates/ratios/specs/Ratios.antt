-- Document 01, "Layouts": frame rates and display ratios, as constant lists of fractions.
use Rattle.std.specs.Prelude.{ℕ, suc, List, [], ◌∷◌, Option, Some, None, cond, eqb}
use Rattle.ratios.specs.declared.Fraction.{Fraction}

infix 80 ◌over◌
abbrev pub ◌over◌ : ℕ → ℕ → Fraction
numerator over denominator = record { 0 = numerator; 1 = denominator }

abbrev pub numerator : Fraction → ℕ
numerator f = f.0

abbrev pub denominator : Fraction → ℕ
denominator f = f.1

-- the entry of a code, in a table whose entries have the codes from `first` on; every other code gives none
unfoldable pub entry_of : ℕ → List Fraction → ℕ → Option Fraction
entry_of first [] code = None
entry_of first (f ∷ fs) code = cond (eqb code first) (Some f) (entry_of (suc first) fs code)

-- Frame rates 1 to 8; other codes give none.
abbrev pub frame_rates : List Fraction
frame_rates =
    24000 over 1001
    ∷ 24 over 1
    ∷ 25 over 1
    ∷ 30000 over 1001
    ∷ 30 over 1
    ∷ 50 over 1
    ∷ 60000 over 1001
    ∷ 60 over 1
    ∷ []

unfoldable pub frame_rate : ℕ → Option Fraction
frame_rate code = entry_of 1 frame_rates code

-- Display ratios: aspect 2 is 4/3, 3 is 16/9, 4 is 221/100; aspect 1 says square samples; it and all others give none.
abbrev pub display_ratios : List Fraction
display_ratios = 4 over 3 ∷ 16 over 9 ∷ 221 over 100 ∷ []

unfoldable pub display_ratio : ℕ → Option Fraction
display_ratio aspect = entry_of 2 display_ratios aspect
