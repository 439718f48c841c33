-- The laws of the unit at an offset: what it is, and what it leaves of the walk.
use Rattle.std.proofs.Common.{Result, Ok, Err, Option, Some, None}
use Prim.Native.Nat.{ℕ, ◌≤◌, ◌<◌, ◌+◌, ◌-◌}
use mathlib.Core.Path.{◌≡◌, refl, sym, ◌∙◌, ap, subst}
use mathlib.Core.List.{List}
use mathlib.Core.Bool.{Bool, true, false, cond}
use lib.Dec.{eqb}
use lib.ListN
use lib.ListN.{length, get_or, drop, length-take, length-drop}
use borrow.Author.Tests.{eqb-true, eqb-false}
use native.Mathlib.Omega.{arith}
use Rattle.answers.proofs.ResultLaws.{not_ok}
use Rattle.bits.proofs.TestLaws.{by_test}
use Rattle.startcode.specs.Prefix.{begins, next_prefix}
use Rattle.grammar.specs.Grammar.{StreamUnit, bytes}
use Rattle.grammar.specs.Rows.{Placed, placed, row_length}
use Rattle.grammar.specs.Reader.{Step, cut, step, scope_in, Walk, stop_at, continue, add_unit, walk_from}
use Rattle.grammar.specs.declared.State.{State}
use Rattle.grammar.specs.declared.Reason.{Reason}
use Rattle.grammar.specs.declared.Reason.TheVariants as reason
use Rattle.grammar.proofs.RowLaws.{length_le}
use Rattle.grammar.proofs.WalkLaws.{left, prefix_fits, chunks_cut, chunks_overlap, chunks_some, unit_between, next_fits, chunks_unit, unit_ends, next_begins}
use Rattle.units.specs.Reader.{next_of, unit_from, unit_of, unit_at}
use Rattle.units.specs.declared.NextUnit.{NextUnit}

-- ── what the unit is ──

pub unit_none : (s : List ℕ) (q : State) (at : ℕ) → begins (drop at s) ≡ false → None ≡ unit_at s q at
unfolding unit_at
unit_none s q at f = rw f

chunk_unit : (s : List ℕ) (q : State) (at : ℕ) (chunks : List (List ℕ)) → begins (drop at s) ≡ true → (cut (drop at s)).chunks ≡ chunks → unit_of chunks q at ≡ unit_at s q at
unfolding unit_at
chunk_unit s q at chunks b e = rw (b, e)

pub unit_cut : (s : List ℕ) (q : State) (at : ℕ) → begins (drop at s) ≡ true → at + 3 ≡ length s → Some (Err reason.Cut) ≡ unit_at s q at
unit_cut s q at b e = chunk_unit s q at _ b (chunks_cut s at b e)

pub unit_overlap : (s : List ℕ) (q : State) (at : ℕ) → begins (drop at s) ≡ true → begins (drop (at + 3) s) ≡ true → Some (Err reason.Overlap) ≡ unit_at s q at
unit_overlap s q at b b' =
    let why : Bool → Option (Result NextUnit Reason) = λ t. Some (Err (cond t reason.Cut reason.Overlap)) in
    ap why (sym (chunks_some s (at + 3) b')) ∙ chunk_unit s q at _ b (chunks_overlap s at b b')

module _ (s : List ℕ) (q : State) (at : ℕ) (b : begins (drop at s) ≡ true) (h : at + 3 < length s) (b' : begins (drop (at + 3) s) ≡ false) where
  abbrev the_unit : StreamUnit
  the_unit = unit_between s at (next_prefix s (at + 3))

  pub unit_is : Some (unit_from q the_unit (next_prefix s (at + 3))) ≡ unit_at s q at
  unit_is = ap (λ (n : ℕ). Some (unit_from q the_unit n)) (sym (unit_ends s at b h b')) ∙ chunk_unit s q at _ b (chunks_unit s at b h b')

-- ── what it leaves of the walk ──

-- a unit that goes on: it, with its place, and where the next one begins
pub record Advanced (s : List ℕ) (q : State) (at : ℕ) (next : State) (end length : ℕ) : Type 0 where
  pub unit : Placed
  pub more : left s q at ≡ add_unit unit (left s next end)
  pub code : unit.unit.code ≡ get_or s (at + 3) 0
  pub bytes_are : at + ListN.length (bytes unit.unit) ≡ end
  pub end_is : end ≡ next_prefix s (at + 3)
  pub length_is : row_length unit ≡ length
  pub forward : at + 4 ≤ end
  pub within : end ≤ ListN.length s
  pub small : length ≤ ListN.length s
  pub begins_next : end < ListN.length s → begins (drop end s) ≡ true

abbrev pub Left : List ℕ → State → ℕ → Option (Result NextUnit Reason) → Type 0
Left s q at (Some (Ok u)) = Advanced s q at u.state u.end u.length
Left s q at (Some (Err why)) = left s q at ≡ stop_at why at
Left s q at None = ⊥

left_of_lem : (s : List ℕ) (q : State) (at : ℕ) (chunks : List (List ℕ)) → (cut (drop at s)).chunks ≡ chunks → left s q at ≡ walk_from chunks q at
unfolding left
left_of_lem s q at chunks e = ap (λ (cs : List (List ℕ)). walk_from cs q at) e

left_cut : (s : List ℕ) (q : State) (at : ℕ) → begins (drop at s) ≡ true → at + 3 ≡ length s → left s q at ≡ stop_at reason.Cut at
unfolding walk_from
left_cut s q at b e = left_of_lem s q at _ (chunks_cut s at b e)

left_overlap : (s : List ℕ) (q : State) (at : ℕ) → begins (drop at s) ≡ true → begins (drop (at + 3) s) ≡ true → left s q at ≡ stop_at reason.Overlap at
unfolding walk_from
left_overlap s q at b b' =
    let stops : Bool → Walk = λ t. stop_at (cond t reason.Cut reason.Overlap) at in
    left_of_lem s q at _ (chunks_overlap s at b b') ∙ ap stops (chunks_some s (at + 3) b')

module _ (s : List ℕ) (q : State) (at : ℕ) (b : begins (drop at s) ≡ true) (h : at + 3 < length s) (b' : begins (drop (at + 3) s) ≡ false) where
  abbrev here : StreamUnit
  here = the_unit s q at b h b'

  abbrev goes : Step → Walk
  goes t = continue t at (λ q'. add_unit (placed (scope_in q here) here) (left s q' (next_prefix s (at + 3))))

  unit_left : left s q at ≡ goes (step q here)
  unfolding walk_from left
  unit_left =
      left_of_lem s q at _ (chunks_unit s at b h b')
      ∙ ap (λ (n : ℕ). continue (step q here) at (λ q'. add_unit (placed (scope_in q here) here) (walk_from (cut (drop (next_prefix s (at + 3)) s)).chunks q' n))) (unit_ends s at b h b')

  by_step : (t : Step) → step q here ≡ t → Left s q at (Some (next_of t (next_prefix s (at + 3)) (row_length (placed (scope_in q here) here))))
  by_step (Ok q') e =
      let f = next_fits s at b h b' in
      let l = length_le (placed (scope_in q here) here) in
      let d = length-take (next_prefix s (at + 3) - (at + 4)) (drop (at + 4) s) in
      let k = length-drop (at + 4) s in
      record {
        unit = placed (scope_in q here) here;
        more = unit_left ∙ ap goes e;
        code = refl;
        bytes_are = unit_ends s at b h b';
        end_is = refl;
        length_is = refl;
        forward = f.0;
        within = f.1;
        small = omega (arith, f.0, f.1);
        begins_next = next_begins s at b h b';
      }
  by_step (Err why) e = unit_left ∙ ap goes e

pub what_is_left : (s : List ℕ) (q : State) (at : ℕ) → begins (drop at s) ≡ true → Left s q at (unit_at s q at)
what_is_left s q at b =
    let fits = prefix_fits s at b in
    by_test (eqb (at + 3) (length s))
    (λ t. let e = eqb-true (at + 3) (length s) t in subst (Left s q at) (unit_cut s q at b e) (left_cut s q at b e))
    (λ f.
    let n = eqb-false (at + 3) (length s) f in
    let h : at + 3 < length s = omega arith in
    by_test (begins (drop (at + 3) s))
    (λ b'. subst (Left s q at) (unit_overlap s q at b b') (left_overlap s q at b b'))
    (λ b'. subst (Left s q at) (unit_is s q at b h b') (by_step s q at b h b' (step q (here s q at b h b')) refl)))

-- where the walk is good a unit stands and goes on
pub record Stands (s : List ℕ) (q : State) (at : ℕ) : Type 0 where
  pub next : State
  pub goes_on : step q (unit_between s at (next_prefix s (at + 3))) ≡ Ok next
  pub advanced : let u = unit_between s at (next_prefix s (at + 3)) in Advanced s q at next (next_prefix s (at + 3)) (row_length (placed (scope_in q u) u))

pub stands : (s : List ℕ) (q : State) (at : ℕ) (ms : List Placed) → begins (drop at s) ≡ true → left s q at ≡ Ok ms → Stands s q at
stands s q at ms b g =
    let fits = prefix_fits s at b in
    by_test (eqb (at + 3) (length s))
    (λ t. not_ok (sym (left_cut s q at b (eqb-true (at + 3) (length s) t)) ∙ g))
    (λ f.
    let n = eqb-false (at + 3) (length s) f in
    let h : at + 3 < length s = omega arith in
    by_test (begins (drop (at + 3) s))
    (λ b'. not_ok (sym (left_overlap s q at b b') ∙ g))
    (λ b'. of_step h b' (step q (here s q at b h b')) refl))
  where
    of_step : (h : at + 3 < length s) (b' : begins (drop (at + 3) s) ≡ false) (t : Step) → step q (unit_between s at (next_prefix s (at + 3))) ≡ t → Stands s q at
    of_step h b' (Ok q') e = record { next = q'; goes_on = e; advanced = by_step s q at b h b' (Ok q') e }
    of_step h b' (Err why) e = not_ok (sym (by_step s q at b h b' (Err why) e) ∙ g)
