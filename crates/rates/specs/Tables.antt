-- Document 02, E9: "for each of the three rates a table of 1,024 numbers giving the next lg when the bin was the context's mps".
use Rattle.std.specs.Prelude.{ℕ, zero, suc, List, [], ◌∷◌, map}
use Rattle.rates.specs.declared.Rate.{Rate}
use Rattle.rates.specs.Rates.{next_lg, w_of, rates}

-- the next lg of so many lgs from one on
unfoldable pub next_lgs : ℕ → ℕ → ℕ → List ℕ
next_lgs w lg zero = []
next_lgs w lg (suc n) = next_lg w lg ∷ next_lgs w (suc lg) n

-- the table of a rate
unfoldable pub table_of : Rate → List ℕ
table_of r = next_lgs (w_of r) 0 1024

-- all three
abbrev pub tables : List (List ℕ)
tables = map table_of rates
