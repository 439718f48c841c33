-- The body's values in their order are the record's.
use Rattle.std.proofs.Common.{Ok, Err}
use Prim.Native.Nat.{ℕ, ◌^◌, ◌<◌}
use mathlib.Core.Path.{◌≡◌, sym, ap, subst, ◌∙◌}
use mathlib.Core.List.{List}
use native.Mathlib.Omega.{arith}
use borrow.Author.Rules.{rules}
use lib.ListN.{length, get_or, take}
use Rattle.answers.specs.Results.{◌>>=◌}
use Rattle.layout.specs.Layouts.{copyright_fields, fields}
use Rattle.layout.specs.Obeys.{Fits}
use Rattle.layout.specs.declared.Layout.TheVariants.{Copyright}
use Rattle.layout.proofs.LayoutLaws.{fits_at, spell, spelled}
use Rattle.bodies.specs.Records.{copyright_record}
use Rattle.bodies.specs.Reader.{copyright_of}
use Rattle.bodies.specs.declared.ExtensionBody.TheVariants as extension
use Rattle.bodies.proofs.AnswerLaws.{held, record_refused, record_made}
use Rattle.bodies.proofs.copyright.Goals as goal
use Rattle.bodies.proofs.copyright.Goals.{After-from}

-- the parts fit their fields
module _ (c : After-from) where
  all : length c.in_ok-flag.field-0 ≡ 16
  all = search rules

  fit : Fits copyright_fields (take 11 c.in_ok-flag.field-0)
  unfolding fields
  fit = held Copyright c.args.body.now c.read_body.result c.read_body.ensures c.in_ok-flag.field-0 c.in_ok-flag.was

  spelled_fit : Fits copyright_fields (take 11 (spell 16 0 c.in_ok-flag.field-0))
  spelled_fit = subst (λ (l : List ℕ). Fits copyright_fields (take 11 l)) (spelled 16 c.in_ok-flag.field-0 all) fit

  one : get_or c.in_ok-flag.field-0 6 0 < 2 ^ 20
  one = fits_at copyright_fields _ 6 spelled_fit (omega arith)

  two : get_or c.in_ok-flag.field-0 8 0 < 2 ^ 22
  two = fits_at copyright_fields _ 8 spelled_fit (omega arith)

  three : get_or c.in_ok-flag.field-0 10 0 < 2 ^ 22
  three = fits_at copyright_fields _ 10 spelled_fit (omega arith)

pub returns-in_err-flag : goal.returns-in_err-flag
unfolding copyright_of
returns-in_err-flag c =
    let r : c.from_residual.result ≡ Err c.in_err-flag.field-0.0 = search rules in
    r ∙ sym (ap (λ x. x >>= (λ a. Ok (extension.Copyright a))) (record_refused Copyright c.args.body.now c.read_body.result c.read_body.ensures copyright_record _ c.in_err-flag.was))

pub returns : goal.returns
unfolding copyright_of copyright_record fields
returns c =
    let values = c.in_ok-flag.field-0 in
    let all : length values ≡ 16 = search rules in
    rw (c.from.ensures, c.from-2.ensures, c.from-3.ensures)
    (sym
    (ap (λ x. x >>= (λ a. Ok (extension.Copyright a)))
    (record_made Copyright c.args.body.now c.read_body.result c.read_body.ensures values c.in_ok-flag.was copyright_record _ (ap (λ (l : List ℕ). copyright_record (take 11 l)) (spelled 16 values all)))))

pub overflow_mul-number : goal.overflow_mul-number
overflow_mul-number c = let at = (goal.at.overflow_mul-number c).After-from in omega (arith, one at, c.from.ensures)

pub overflow_add-number : goal.overflow_add-number
overflow_add-number c = let at = (goal.at.overflow_add-number c).After-from in omega (arith, one at, two at, c.from.ensures, c.from-2.ensures)

pub overflow_add-number-2 : goal.overflow_add-number-2
overflow_add-number-2 c = let at = (goal.at.overflow_add-number-2 c).After-from in omega (arith, one at, two at, three at, c.from.ensures, c.from-2.ensures, c.from-3.ensures)
