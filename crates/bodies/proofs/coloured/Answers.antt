-- The body's values in their order are the record's.
use Rattle.std.proofs.Common.{Ok, Err}
use Prim.Native.Nat.{ℕ}
use mathlib.Core.Path.{◌≡◌, sym, ap, ◌∙◌}
use mathlib.Core.List.{List}
use borrow.Author.Rules.{rules}
use lib.ListN.{length, take}
use Rattle.answers.specs.Results.{◌>>=◌}
use Rattle.layout.specs.Layouts.{fields}
use Rattle.layout.specs.declared.Layout.TheVariants.{Coloured}
use Rattle.layout.proofs.LayoutLaws.{spelled}
use Rattle.bodies.specs.Records.{coloured_record}
use Rattle.bodies.specs.Reader.{coloured_of}
use Rattle.bodies.specs.declared.ExtensionBody.TheVariants as extension
use Rattle.bodies.proofs.AnswerLaws.{record_refused, record_made}
use Rattle.bodies.proofs.coloured.Goals as goal

pub returns-in_err-format : goal.returns-in_err-format
unfolding coloured_of
returns-in_err-format c =
    let r : c.from_residual.result ≡ Err c.in_err-format.field-0.0 = search rules in
    r ∙ sym (ap (λ x. x >>= (λ a. Ok (extension.Display a))) (record_refused Coloured c.args.body.now c.read_body.result c.read_body.ensures coloured_record _ c.in_err-format.was))

pub returns : goal.returns
unfolding coloured_of coloured_record fields
returns c =
    let values = c.in_ok-format.field-0 in
    let all : length values ≡ 16 = search rules in
    sym
    (ap (λ x. x >>= (λ a. Ok (extension.Display a)))
    (record_made Coloured c.args.body.now c.read_body.result c.read_body.ensures values c.in_ok-format.was coloured_record _ (ap (λ (l : List ℕ). coloured_record (take 11 l)) (spelled 16 values all))))
