-- Document 02, E9: the entry of a table at an index.
use Rattle.std.specs.Prelude.{ℕ, Option}
use Rattle.std.specs.List.{slice_get}
use Rattle.rates.specs.Tables.{table_of}
use Rattle.rates.specs.declared.Rate.{Rate}

-- none where the table has ended
abbrev pub entry_of : Rate → ℕ → Option ℕ
entry_of r k = slice_get (table_of r) k
