-- What is left of a reading from one of its groups on: it is a reading, and its rows are the rows from there on.
use Prim.Native.Nat.{ℕ, ◌+◌, ◌≤◌}
use mathlib.Core.Path.{◌≡◌, refl, sym, ◌∙◌, ap, subst}
use mathlib.Core.List.{List, [], ◌∷◌, ◌++◌, map, append_assoc, append-nil}
use native.Mathlib.Omega.{arith}
use lib.ListN.{length, drop, length-map, length-drop}
use lib.Seq.{drop_at}
use Rattle.bits.specs.Lists.{All}
use Rattle.bits.proofs.ListLaws.{all_right}
use Rattle.bodies.specs.declared.Scope.TheVariants as scope
use Rattle.grammar.specs.Lists.{concat_map}
use Rattle.grammar.specs.Grammar.{StreamUnit, bytes, Alone, Group, Reading, group_units, units, IsGroup, Reads}
use Rattle.grammar.specs.Rows.{Row, Placed, placed, placed_group, placed_units, rows_from, rows}
use Rattle.grammar.proofs.ListLaws.{concat_append}
use Rattle.grammar.proofs.Filing.{unit_of, units_of_placed}
use Rattle.grammar.proofs.RowLaws.{rows_length, units_length, bytes_of, concat_units, rows_append, shifted, rows_shift}
use Rattle.cuts.specs.Cuts.{CutAt, rest, rows_from_cut, less, rows_left}

-- what is left of units' bytes where one of them begins
pub bytes_left : (before after : List StreamUnit) (n : ℕ) → n ≡ length (concat_map bytes before) → drop n (concat_map bytes (before ++ after)) ≡ concat_map bytes after
bytes_left before after n e = ap (drop n) (concat_append bytes before after) ∙ drop_at (concat_map bytes before) (concat_map bytes after) n (sym e)

module _ (r : Reading) (n : ℕ) (c : CutAt r n) where
  -- what groups give, and an ending, divided as the groups are
  divided : {B : Type 0} (f : Group → List B) (e : List B) → concat_map f r.groups ++ e ≡ concat_map f c.before ++ (concat_map f c.after ++ e)
  divided {B} f e =
      ap (λ (gs : List Group). concat_map f gs ++ e) c.divided
      ∙ ap (λ (l : List B). l ++ e) (concat_append f c.before c.after)
      ∙ append_assoc (concat_map f c.before) (concat_map f c.after) e

  pub units_divided : units r ≡ concat_map group_units c.before ++ units (rest r c)
  units_divided = divided group_units r.ending

  -- ── the rest is a reading ──

  pub cut_reads : (stream : List ℕ) → Reads stream r → Reads (drop n stream) (rest r c)
  cut_reads stream h = record {
    stream_is = sym (ap (drop n) (sym h.stream_is ∙ ap (concat_map bytes) units_divided) ∙ bytes_left (concat_map group_units c.before) (units (rest r c)) n c.place);
    alone = all_right Alone (concat_map group_units c.before) (units (rest r c)) (subst (All Alone) units_divided h.alone);
    some_group = c.some_group;
    groups = all_right IsGroup c.before c.after (subst (All IsGroup) c.divided h.groups);
    ending = h.ending;
  }

  -- ── its rows ──

  abbrev before : List Placed
  before = concat_map placed_group c.before

  placed_divided : placed_units r ≡ before ++ placed_units (rest r c)
  placed_divided = divided placed_group (map (placed scope.Picture) r.ending)

  -- the units of groups, whatever ends a reading of them
  groups_units : map unit_of before ≡ concat_map group_units c.before
  groups_units = simp append-nil at (units_of_placed (record { groups = c.before; ending = [] }))

  groups_length : length before ≡ length (concat_map group_units c.before)
  groups_length = simp append-nil at (units_length (record { groups = c.before; ending = [] }))

  bytes_before : length (bytes_of before) ≡ length (concat_map bytes (concat_map group_units c.before))
  bytes_before = ap length (sym (concat_units before) ∙ ap (concat_map bytes) groups_units)

  rows_divided : rows r ≡ rows_from 0 before ++ map (shifted n) (rows (rest r c))
  rows_divided =
      let b = bytes_before in let p = c.place in
      ap (rows_from 0) placed_divided
      ∙ rows_append 0 before (placed_units (rest r c)) (n + 0) (omega arith)
      ∙ ap (λ (rs : List Row). rows_from 0 before ++ rs) (rows_shift n 0 (placed_units (rest r c)))

  rows_from_lem : rows_from_cut r c ≡ map (shifted n) (rows (rest r c))
  rows_from_lem =
      let k = length (concat_map group_units c.before) in
      ap (drop k) rows_divided ∙ drop_at (rows_from 0 before) (map (shifted n) (rows (rest r c))) k (rows_length 0 before ∙ groups_length)

less_one : (n : ℕ) (row : Row) → less n (shifted n row) ≡ row
less_one n row = let o : (less n (shifted n row)).offset ≡ row.offset = omega arith in λ i. record { code = row.code; offset = o i; length = row.length }

less_shifted : (n : ℕ) (rs : List Row) → map (less n) (map (shifted n) rs) ≡ rs
less_shifted n [] = refl
less_shifted n (row ∷ rs) = ap (λ (l : List Row). less n (shifted n row) ∷ l) (less_shifted n rs) ∙ ap (λ (x : Row). x ∷ rs) (less_one n row)

pub cut_rows : (r : Reading) (n : ℕ) (c : CutAt r n) → rows (rest r c) ≡ rows_left r c
cut_rows r n c = sym (ap (map (less n)) (rows_from_lem r n c) ∙ less_shifted n (rows (rest r c)))

shifted_offsets : (n : ℕ) (rs : List Row) → All (λ row. n ≤ row.offset) (map (shifted n) rs)
shifted_offsets n [] = tt
shifted_offsets n (row ∷ rs) = (omega arith, shifted_offsets n rs)

pub cut_offsets : (r : Reading) (n : ℕ) (c : CutAt r n) → All (λ row. n ≤ row.offset) (rows_from_cut r c)
cut_offsets r n c = subst (All (λ row. n ≤ row.offset)) (sym (rows_from_lem r n c)) (shifted_offsets n (rows (rest r c)))

pub rows_count : (r : Reading) → length (rows r) ≡ length (units r)
rows_count r = rows_length 0 (placed_units r) ∙ units_length r

pub fewer_rows : (r : Reading) (n : ℕ) (c : CutAt r n) → length (rows_left r c) ≤ length (rows r)
fewer_rows r n c =
    let m = length-map (rows_from_cut r c) (less n) in
    let d = length-drop (length (concat_map group_units c.before)) (rows r) in
    omega arith
