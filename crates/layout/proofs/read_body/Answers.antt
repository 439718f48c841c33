-- The length, then the values, then the rules across them and the end.
use Rattle.std.proofs.Common.{Ok, Err}
use Prim.Native.Nat.{ℕ, ◌≤◌}
use mathlib.Core.Path.{◌≡◌, sym, ap, subst, ◌∙◌}
use mathlib.Core.List.{List}
use native.Mathlib.Omega.{arith}
use borrow.Author.Rules.{rules}
use lib.ListN.{length, take, length-take}
use Rattle.answers.specs.Results.{map_ok}
use Rattle.bits.specs.Bits.{bits_of}
use Rattle.layout.specs.Layouts.{fields, least_bytes}
use Rattle.layout.specs.Reader.{Verdict, ◌>>◌, cross, ended, both, reading}
use Rattle.layout.specs.Inside.{taken_from}
use Rattle.layout.specs.declared.Layout.{Layout}
use Rattle.layout.specs.declared.Field.{Field}
use Rattle.layout.proofs.JudgeLaws.{reading_short}
use Rattle.layout.proofs.TakenLaws.{across, reading_taken, reading_judged, taken_length}
use Rattle.layout.proofs.read_body.Goals as goal
use Rattle.layout.proofs.read_body.Goals.{In_ok-values, After-judge_body}

-- the values were read
module _ (c : In_ok-values) where
  abbrev layout : Layout
  layout = c.args.layout

  abbrev body : List ℕ
  body = c.args.body.now

  abbrev vs : List ℕ
  vs = take (length (fields layout)) c.in_ok-values.values

  were_taken : taken_from (fields layout) 0 (bits_of body) ≡ Ok vs
  were_taken = sym c.read_fields.ensures ∙ ap (map_ok (take (length (fields layout)))) c.in_ok-values.was

  enough : least_bytes layout ≤ length body
  enough = omega (arith, c.least_bytes.ensures, c.if-body-least_bytes.false)

  as_many : length vs ≡ length (fields layout)
  as_many = taken_length layout body enough vs were_taken

-- the body is what judging its values finds
judged : (c : After-judge_body) → reading c.args.layout c.args.body.now ≡ (c.judge_body.result >> Ok (take (length (fields c.args.layout)) c.in_ok-values.values))
judged c =
    let layout = c.args.layout in
    let body = c.args.body.now in
    let vs = take (length (fields layout)) c.in_ok-values.values in
    let taken = sym c.read_fields.ensures ∙ ap (map_ok (take (length (fields layout)))) c.in_ok-values.was in
    reading_judged layout body (omega (arith, c.least_bytes.ensures, c.if-body-least_bytes.false)) vs taken
    ∙ subst (λ (l : List Field). (both (cross layout (take (length l) c.in_ok-values.values)) (ended layout body) >> Ok vs) ≡ (c.judge_body.result >> Ok vs)) c.fields.ensures (ap (λ (v : Verdict). v >> Ok vs) (sym c.judge_body.ensures))

pub returns-then-body-least_bytes : goal.returns-then-body-least_bytes
returns-then-body-least_bytes c = sym (reading_short c.args.layout c.args.body.now (omega (arith, c.least_bytes.ensures, c.if-body-least_bytes.true)))

pub slice_bounds-values-end : goal.slice_bounds-values-end
slice_bounds-values-end c =
    let at = (goal.at.slice_bounds-values-end c).In_ok-values in
    omega (arith, as_many at, length-take (length (fields (layout at))) c.in_ok-values.values, ap length c.fields.ensures)

pub slice_bounds-judge_body-end : goal.slice_bounds-judge_body-end
slice_bounds-judge_body-end c = let at = (goal.at.slice_bounds-judge_body-end c).In_ok-values in
    subst (λ (l : List Field). length l ≡ length (take (length l) c.in_ok-values.values)) (sym c.fields.ensures) (sym (as_many at))

pub judge_body-requires : goal.judge_body-requires
judge_body-requires c = let at = (goal.at.judge_body-requires c).In_ok-values in
    (enough at, subst (λ (l : List Field). length (take (length l) c.in_ok-values.values) ≡ length (fields (layout at))) (sym c.fields.ensures) (as_many at))

pub returns-in_err-values : goal.returns-in_err-values
returns-in_err-values c =
    let a = c.args in
    let r : c.from_residual.result ≡ Err c.in_err-values.field-0.0 = search rules in
    let e = sym c.read_fields.ensures ∙ ap (map_ok (take (length (fields a.layout)))) c.in_err-values.was in
    ap (map_ok (take (length (fields a.layout)))) r ∙ sym (reading_taken a.layout a.body.now (omega (arith, c.least_bytes.ensures, c.if-body-least_bytes.false)) ∙ ap (across a.layout a.body.now) e)

pub returns-in_err-judge_body : goal.returns-in_err-judge_body
returns-in_err-judge_body c =
    let vs = take (length (fields c.args.layout)) c.in_ok-values.values in
    let r : c.from_residual-in_err-judge_body.result ≡ Err c.in_err-judge_body.field-0.0 = search rules in
    ap (map_ok (take (length (fields c.args.layout)))) r ∙ sym (judged (goal.at.returns-in_err-judge_body c).After-judge_body ∙ ap (λ (v : Verdict). v >> Ok vs) c.in_err-judge_body.was)

pub returns : goal.returns
returns c = sym (judged (goal.at.returns c).After-judge_body ∙ ap (λ (v : Verdict). v >> Ok (take (length (fields c.args.layout)) c.in_ok-values.values)) c.in_ok-judge_body.was)
