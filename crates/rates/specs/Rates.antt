-- Document 01, "Bins", "Update": what belongs to a context's rate, in the document's order.
use Rattle.std.specs.Prelude.{ℕ, ◌+◌, ◌-◌, ◌/◌, ◌^◌, cond, List, [], ◌∷◌, leb, eqb}
use Rattle.rates.specs.declared.Rate.{Rate}
use Rattle.rates.specs.declared.Rate.TheVariants.{Three, Four, Five}

-- w by the cycno: "3 for 0 or 1, 4 for 2, 5 for 3"
unfoldable pub rate_of : ℕ → ℕ
rate_of cycno = cond (leb cycno 1) 3 (cond (eqb cycno 2) 4 5)

-- lg after a bin that was mps: it "loses lg/2^w and lg/2^(w+2)"
abbrev pub next_lg : ℕ → ℕ → ℕ
next_lg w lg = lg - lg / 2 ^ w - lg / 2 ^ (w + 2)

-- what lg gains otherwise: "197, 95 or 46 for w 3, 4, 5"
unfoldable pub gain_of : ℕ → ℕ
gain_of w = cond (eqb w 3) 197 (cond (eqb w 4) 95 46)

-- each rate's w
abbrev pub w_of : Rate → ℕ
w_of Three = 3
w_of Four = 4
w_of Five = 5

-- "the three rates"
abbrev pub rates : List Rate
rates = Three ∷ Four ∷ Five ∷ []
