-- What is proved of rows beyond the contracts of the functions.
use Prim.Native.Nat.{ℕ, ◌/◌}
use mathlib.Core.Path.{◌≡◌}
use mathlib.Core.List.{List, ◌∷◌, ◌++◌}
use mathlib.Core.Bool.{true}
use Rattle.std.proofs.Common.{Some}
use lib.Dec.{ltb}
use lib.ListN.{length, take}
use Rattle.grammar.specs.Grammar.{Reading, Reads}
use Rattle.grammar.specs.Rows.{Row, Placed, placed_units, row_length, rows, words}
use Rattle.rows.specs.Rows.{held_row, is_row, row_exists, row_body}
use Rattle.rows.proofs.RowLaws as laws
use Rattle.rows.proofs.Filed as filed

-- The words lent hold row i exactly when i is below a third of them, rounded down.
pub held_exactly : (ws : List ℕ) (i : ℕ) → is_row (held_row ws i) ≡ ltb i (length ws / 3)
held_exactly = laws.held_exactly

-- Row i of the words that filing writes, whatever words stand after them, is the i-th row.
pub filed_row : (before : List Row) (r : Row) (after : List Row) (rest : List ℕ) → held_row (words (before ++ r ∷ after) ++ rest) (length before) ≡ Some r
filed_row = filed.filed_row

-- Of a filed stream the row of each unit exists, and its body is the unit's body up to the row's length.
pub filed_body : (stream : List ℕ) (r : Reading) → Reads stream r → (before : List Placed) (p : Placed) (after : List Placed) → placed_units r ≡ before ++ p ∷ after
    → (rest : List ℕ) → (row_exists stream (words (rows r) ++ rest) (length before) ≡ true) × (row_body stream (words (rows r) ++ rest) (length before) ≡ take (row_length p) p.unit.body)
filed_body = filed.filed_body
