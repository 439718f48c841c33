-- The body's values in their order are the record's.
use Rattle.std.proofs.Common.{Err}
use Prim.Native.Nat.{ℕ, ◌^◌, ◌<◌}
use mathlib.Core.Path.{◌≡◌, sym, ap, subst, ◌∙◌}
use mathlib.Core.List.{List}
use native.Mathlib.Omega.{arith}
use borrow.Author.Rules.{rules}
use lib.ListN.{length, get_or, take}
use Rattle.layout.specs.Layouts.{header_fields, fields}
use Rattle.layout.specs.Obeys.{Fits}
use Rattle.layout.specs.declared.Layout.TheVariants.{Header}
use Rattle.layout.proofs.LayoutLaws.{fits_at, spell, spelled}
use Rattle.bodies.specs.Records.{header_record}
use Rattle.bodies.proofs.AnswerLaws.{held, record_refused, record_made}
use Rattle.bodies.proofs.sequence_header.Goals as goal
use Rattle.bodies.proofs.sequence_header.Goals.{In_ok-profile}

-- the parts of the bit rate fit their fields
module _ (c : In_ok-profile) where
  all : length c.in_ok-profile.field-0 ≡ 16
  all = search rules

  fit : Fits header_fields (take 16 c.in_ok-profile.field-0)
  unfolding fields
  fit = held Header c.args.body.now c.read_body.result c.read_body.ensures c.in_ok-profile.field-0 c.in_ok-profile.was

  spelled_fit : Fits header_fields (take 16 (spell 16 0 c.in_ok-profile.field-0))
  spelled_fit = subst (λ (l : List ℕ). Fits header_fields (take 16 l)) (spelled 16 c.in_ok-profile.field-0 all) fit

  low : get_or c.in_ok-profile.field-0 9 0 < 2 ^ 18
  low = fits_at header_fields _ 9 spelled_fit (omega arith)

  high : get_or c.in_ok-profile.field-0 11 0 < 2 ^ 12
  high = fits_at header_fields _ 11 spelled_fit (omega arith)

pub overflow_mul-bitrate : goal.overflow_mul-bitrate
overflow_mul-bitrate c = omega (arith, high (goal.at.overflow_mul-bitrate c).In_ok-profile)

pub overflow_add-bitrate : goal.overflow_add-bitrate
overflow_add-bitrate c = let at = (goal.at.overflow_add-bitrate c).In_ok-profile in omega (arith, low at, high at)

pub returns-in_err-profile : goal.returns-in_err-profile
returns-in_err-profile c =
    let r : c.from_residual.result ≡ Err c.in_err-profile.field-0.0 = search rules in
    r ∙ sym (record_refused Header c.args.body.now c.read_body.result c.read_body.ensures header_record _ c.in_err-profile.was)

pub returns : goal.returns
unfolding header_record fields
returns c =
    let values = c.in_ok-profile.field-0 in
    sym
    (record_made Header c.args.body.now c.read_body.result c.read_body.ensures values c.in_ok-profile.was header_record _
    (ap (λ (l : List ℕ). header_record (take 16 l)) (spelled 16 values (all (goal.at.returns c).In_ok-profile))))
