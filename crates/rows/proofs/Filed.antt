-- The rows that filing writes: the row at an index, and its body in the stream.
use Prim.Native.Nat.{ℕ, ◌+◌}
use mathlib.Core.Path.{◌≡◌, refl, sym, ap, ◌∙◌}
use mathlib.Core.List.{List, [], ◌∷◌, ◌++◌}
use mathlib.Core.Bool.{Bool, true, cond}
use Rattle.std.proofs.Common.{Some, None}
use native.Mathlib.Omega.{arith}
use borrow.Author.Tests.{le-leb}
use lib.ListN.{length, take, drop, length-append}
use lib.Seq.{take-append-le, drop-append-add}
use Rattle.grammar.specs.Lists.{concat_map}
use Rattle.grammar.specs.Grammar.{bytes, Reading, Reads}
use Rattle.grammar.specs.Rows.{Row, Placed, placed_units, row_length, rows_from, rows, words}
use Rattle.grammar.proofs.Filing.{units_of_placed}
use Rattle.grammar.proofs.RowLaws.{rows_length, length_le, bytes_of, bytes_append, concat_units, row_for, rows_append}
use Rattle.rows.specs.Rows.{held_row, in_stream, if_in_stream, existing, is_row, row_exists, part_of, row_body}

pub filed_row : (before : List Row) (r : Row) (after : List Row) (rest : List ℕ) → held_row (words (before ++ r ∷ after) ++ rest) (length before) ≡ Some r
unfolding held_row
filed_row [] r after rest = refl
filed_row (b ∷ before) r after rest = filed_row before r after rest

-- ── the body of a unit's row ──

held_unit : (before : List Placed) (p : Placed) (after : List Placed) (rest : List ℕ)
    → held_row (words (rows_from 0 (before ++ p ∷ after)) ++ rest) (length before) ≡ Some (row_for (length (bytes_of before)) p)
held_unit before p after rest =
    let at = length (bytes_of before) in
    let rs = rows_from (at + length (bytes p.unit)) after in
    ap (λ (rs : List Row). held_row (words rs ++ rest) (length before)) (rows_append 0 before (p ∷ after) at (omega arith))
    ∙ ap (held_row (words (rows_from 0 before ++ row_for at p ∷ rs) ++ rest)) (sym (rows_length 0 before))
    ∙ filed_row (rows_from 0 before) (row_for at p) rs rest

row_inside : (b : List ℕ) (p : Placed) (a : List ℕ) → in_stream (b ++ (bytes p.unit ++ a)) (row_for (length b) p) ≡ true
unfolding in_stream
row_inside b p a =
    let l = length_le p in
    le-leb (length b + 4 + row_length p) (length (b ++ (bytes p.unit ++ a))) (omega (arith, length-append b (bytes p.unit ++ a), length-append p.unit.body a))

body_inside : (b : List ℕ) (p : Placed) (a : List ℕ) → take (row_length p) (drop (length b + 4) (b ++ (bytes p.unit ++ a))) ≡ take (row_length p) p.unit.body
body_inside b p a =
    ap (take (row_length p)) (drop-append-add b (bytes p.unit ++ a) 4)
    ∙ take-append-le (row_length p) p.unit.body a (length_le p)

existing_unit : (before : List Placed) (p : Placed) (after : List Placed) (rest : List ℕ)
    → existing (bytes_of (before ++ p ∷ after)) (words (rows_from 0 (before ++ p ∷ after)) ++ rest) (length before) ≡ Some (row_for (length (bytes_of before)) p)
unfolding existing
existing_unit before p after rest =
    let r = row_for (length (bytes_of before)) p in
    let s = bytes_of (before ++ p ∷ after) in
    ap (if_in_stream s) (held_unit before p after rest)
    ∙ ap (λ (t : Bool). cond t (Some r) None) (ap (λ (l : List ℕ). in_stream l r) (bytes_append before (p ∷ after)) ∙ row_inside (bytes_of before) p (bytes_of after))

stream_of : (stream : List ℕ) (r : Reading) → Reads stream r → bytes_of (placed_units r) ≡ stream
stream_of stream r h = sym (concat_units (placed_units r)) ∙ ap (concat_map bytes) (units_of_placed r) ∙ h.stream_is

pub filed_body : (stream : List ℕ) (r : Reading) → Reads stream r → (before : List Placed) (p : Placed) (after : List Placed) → placed_units r ≡ before ++ p ∷ after
    → (rest : List ℕ) → (row_exists stream (words (rows r) ++ rest) (length before) ≡ true) × (row_body stream (words (rows r) ++ rest) (length before) ≡ take (row_length p) p.unit.body)
filed_body stream r h before p after e rest =
    let s : stream ≡ bytes_of (before ++ p ∷ after) = sym (stream_of stream r h) ∙ ap bytes_of e in
    let x : existing stream (words (rows r) ++ rest) (length before) ≡ Some (row_for (length (bytes_of before)) p) =
    ap (λ (l : List ℕ). existing l (words (rows r) ++ rest) (length before)) s
    ∙ ap (λ (ps : List Placed). existing (bytes_of (before ++ p ∷ after)) (words (rows_from 0 ps) ++ rest) (length before)) e
    ∙ existing_unit before p after rest in (
      ap is_row x,
      ap (part_of stream) x
          ∙ ap (λ (l : List ℕ). take (row_length p) (drop (length (bytes_of before) + 4) l)) (s ∙ bytes_append before (p ∷ after))
          ∙ body_inside (bytes_of before) p (bytes_of after),
    )
