-- The entries of the source are those of the definition, which antt computes.
use mathlib.Core.Path.{refl}
use Rattle.rates.specs.Tables.{next_lgs, table_of}
use Rattle.rates.proofs.tables.Goals as goal

pub returns : goal.returns
unfolding next_lgs table_of
returns c = refl
