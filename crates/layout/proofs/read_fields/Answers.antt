-- The values that are taken, and those that are still to be taken, are the body's.
use Rattle.std.proofs.Common.{Err}
use Prim.Native.Nat.{ℕ, ◌+◌, ◌≤◌, ◌<◌}
use mathlib.Core.Path.{◌≡◌, refl, sym, ap, subst, ◌∙◌}
use mathlib.Core.List.{List, ◌∷◌}
use native.Mathlib.Omega.{arith}
use borrow.Author.Rules.{rules}
use lib.ListN.{length, get_or, take, drop, length-set, drop_of_length-le}
use Rattle.answers.specs.Results.{map_ok}
use Rattle.bits.specs.Bits.{bits_of}
use Rattle.bits.specs.Lists.{All}
use Rattle.bits.proofs.ListLaws.{at_head, all_drop}
use Rattle.layout.specs.Layouts.{field, width_of, fields, bit_count}
use Rattle.layout.specs.declared.Name.TheVariants.{Profile}
use Rattle.layout.specs.declared.Rule.TheVariants.{Any}
use Rattle.layout.specs.declared.Field.{Field}
use Rattle.layout.proofs.LayoutLaws.{table, rest_count}
use Rattle.layout.proofs.ReadingLaws.{onto_none, taken_step, taken_stop, taken_end}
use Rattle.layout.proofs.read_fields.Goals as goal
use Rattle.layout.proofs.read_fields.Goals.{In-loop-i}

-- a turn's field heads those that are left
module _ (c : In-loop-i) where
  abbrev fs : List Field
  fs = fields c.args.layout

  abbrev bits : List ℕ
  bits = bits_of c.args.body.now

  abbrev here : Field
  here = get_or c.fields-field-items.result.now c.loop-i.i (field Profile 0 Any)

  abbrev rest : List Field
  rest = drop (c.loop-i.i + 1) fs

  few : c.loop-i.i < length fs
  few = subst (λ (l : List Field). c.loop-i.i < length l) c.fields-field-items.ensures c.loop-i-test.true

  heads : drop c.loop-i.i fs ≡ here ∷ rest
  heads = subst (λ (l : List Field). drop c.loop-i.i fs ≡ get_or l c.loop-i.i (field Profile 0 Any) ∷ rest) (sym c.fields-field-items.ensures) (at_head fs c.loop-i.i (field Profile 0 Any) few)

  counted : bit_count (drop c.loop-i.i fs) ≡ width_of here + bit_count rest
  counted = rest_count (drop c.loop-i.i fs) rest here heads

  narrow : width_of here ≤ 32
  narrow = (subst (All (λ (f : Field). width_of f ≤ 32)) heads (all_drop (λ (f : Field). width_of f ≤ 32) c.loop-i.i fs (table c.args.layout).narrow)).0

  inside : c.loop-i.at + width_of here ≤ 112
  inside = omega (arith, counted, (table c.args.layout).small, c.loop-i.invariant.counted)

pub loop-i-init : goal.loop-i-init
loop-i-init c = record { counted = omega arith; room = refl; taken = onto_none _ }

pub read_field-requires : goal.read_field-requires
read_field-requires c = let at = (goal.at.read_field-requires c).In-loop-i in (inside at, narrow at)

pub bounds-values-i : goal.bounds-values-i
bounds-values-i c = omega (arith, few (goal.at.bounds-values-i c).In-loop-i, (table c.args.layout).few)

pub overflow_add-at : goal.overflow_add-at
overflow_add-at c = omega (arith, inside (goal.at.overflow_add-at c).In-loop-i)

pub loop-i-preserved : goal.loop-i-preserved
loop-i-preserved c =
    let p = c.loop-i in
    let at = (goal.at.loop-i-preserved c).In-loop-i in
    let small = table c.args.layout in
    record {
      counted = omega (arith, counted at, p.invariant.counted);
      room = rw length-set p.invariant.room;
      taken =
          p.invariant.taken
          ∙ taken_step (drop p.i (fs at)) (rest at) (here at) p.at p.i c.in_ok-values.field-0 (bits at) p.values (heads at) (sym c.read_field.ensures ∙ c.in_ok-values.was) (omega (arith, few at, small.few, p.invariant.room));
    }

pub returns-in_err-values : goal.returns-in_err-values
returns-in_err-values c =
    let p = c.loop-i in
    let at = (goal.at.returns-in_err-values c).In-loop-i in
    let r : c.from_residual.result ≡ Err c.in_err-values.field-0.0 = search rules in
    ap (map_ok (take (length (fs at)))) r ∙ sym (p.invariant.taken ∙ taken_stop (drop p.i (fs at)) (rest at) (here at) p.at (take p.i p.values) (bits at) _ (heads at) (sym c.read_field.ensures ∙ c.in_err-values.was))

pub returns : goal.returns
returns c =
    let p = c.loop-i in
    let fs = fields c.args.layout in
    let n = ap length c.fields-field-items.ensures in
    let e : p.i ≡ length fs = omega arith in
    rw (← e) (sym (p.invariant.taken ∙ taken_end (drop p.i fs) p.at (take p.i p.values) (bits_of c.args.body.now) (drop_of_length-le fs {i = p.i} (omega arith))))
