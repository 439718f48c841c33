-- The bits that are read are the field's, and its rule judges their value.
use Rattle.std.proofs.Common.{Ok, Err}
use Prim.Native.Nat.{ℕ, ◌+◌, ◌≤◌}
use mathlib.Core.Path.{◌≡◌, sym, ap, ◌∙◌}
use mathlib.Core.List.{List}
use borrow.Author.Rules.{rules}
use Rattle.bits.specs.Bits.{bits_of, payload, read_at}
use Rattle.bits.proofs.BitLaws.{within_value, within_err}
use Rattle.layout.specs.Layouts.{width_of, rule_of}
use Rattle.layout.specs.Reader.{Verdict, ◌>>◌, ruled}
use Rattle.layout.specs.Inside.{taken}
use Rattle.layout.proofs.ReadingLaws.{read_inside, taken_value, taken_fail}
use Rattle.layout.proofs.read_field.Goals as goal
use Rattle.layout.proofs.read_field.Goals.{After-read}

module _ (c : After-read) where
  abbrev width : ℕ
  width = width_of c.args.field

  -- the bits before the field's end
  abbrev before : List ℕ
  before = payload c.args.body.now (c.args.at + width)

  narrow : width ≤ 32
  narrow = c.requires.1

  inside : read_at before c.args.at width ≡ read_at (bits_of c.args.body.now) c.args.at width
  inside = read_inside (bits_of c.args.body.now) c.args.at width

  -- a value that is read is judged
  judged : (v : ℕ) → c.read.result ≡ Ok v → taken c.args.field c.args.at (bits_of c.args.body.now) ≡ (ruled (rule_of c.args.field) v c.args.at >> Ok v)
  judged v r = let a = c.args in taken_value a.field a.at v (bits_of a.body.now) (sym inside ∙ within_value before a.at width narrow v (sym c.read.ensures ∙ r))

pub returns : goal.returns
returns c =
    let e = judged (goal.at.returns c).After-read _ c.in-Ok.is in
    sym (e ∙ ap (λ (v : Verdict). v >> Ok c.in-Ok.value) (sym c.ruled_on.ensures ∙ c.in_ok-ruled_on.was))

pub returns-in_err-ruled_on : goal.returns-in_err-ruled_on
returns-in_err-ruled_on c =
    let e = judged (goal.at.returns-in_err-ruled_on c).After-read _ c.in-Ok.is in
    let r : c.from_residual.result ≡ Err c.in_err-ruled_on.field-0.0 = search rules in
    r ∙ sym (e ∙ ap (λ (v : Verdict). v >> Ok c.in-Ok.value) (sym c.ruled_on.ensures ∙ c.in_err-ruled_on.was))

pub returns-in_default : goal.returns-in_default
returns-in_default c =
    let a = c.args in
    let r = (goal.at.returns-in_default c).After-read in
    let (missing, is, _) = within_err (before r) a.at (width r) (narrow r) _ (sym c.read.ensures ∙ c.in_default.is) in
    sym (taken_fail a.field a.at missing (bits_of a.body.now) (sym (inside r) ∙ is))
