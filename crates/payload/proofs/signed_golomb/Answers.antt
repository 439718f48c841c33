-- The unsigned answer, with the number that it stands for.
use mathlib.Core.Path.{◌≡◌, refl, sym, ap, ◌∙◌}
use lib.IntN.{ℤ}
use mir.Facts.{to_z-of_z}
use mir.Syntax.{w32}
use Rattle.answers.specs.Answers.{Outcome, done, map_done}
use Rattle.payload.specs.Golomb.{golomb_says, golomb_refused, with_sign}
use Rattle.payload.specs.declared.GolombError.{GolombError}
use Rattle.payload.specs.declared.GolombError.TheVariants.{Value, TooLong, PayloadOut}
use Rattle.payload.specs.declared.Numbered.{Numbered}
use Rattle.payload.specs.Reader.{signed_golomb}
use Rattle.payload.proofs.GolombLaws.{golomb_bound, refused_as}
use Rattle.payload.proofs.signed_golomb.Goals as goal
use Rattle.payload.proofs.signed_golomb.Goals.{After-unsigned_golomb}

pub stands_for-requires : goal.stands_for-requires
stands_for-requires c =
    let p = c.args.bits.now in
    golomb_bound p.bytes.now p.count c.args.place c.in_ok-unsigned.unsigned (sym c.unsigned_golomb.ensures ∙ ap golomb_says c.in_ok-unsigned.was)

-- the unsigned answer decides the signed one
signed : (r : After-unsigned_golomb) →
    let p = r.args.bits.now in
    map_done with_sign (golomb_says r.unsigned_golomb.result) ≡ signed_golomb p.bytes.now p.count r.args.place
unfolding signed_golomb
signed r = ap (map_done with_sign) r.unsigned_golomb.ensures

pub returns : goal.returns
returns c =
    let g = c.in_ok-unsigned in
    let answer : ℤ → Outcome (Numbered ℤ) = λ n. done (record { number = n; next = g.unsigned.next }) in
    ap answer (to_z-of_z {w = w32} {z = c.stands_for.result} (record { sfits = c.stands_for.type_inv }) ∙ c.stands_for.ensures)
    ∙ ap (λ y. map_done with_sign (golomb_says y)) (sym g.was)
    ∙ signed (goal.at.returns c).After-unsigned_golomb

-- a refusal is the same of either
by_why : (why : GolombError) → golomb_refused why ≡ map_done with_sign (golomb_refused why)
by_why Value = refl
by_why TooLong = refl
by_why (PayloadOut m) = refl

pub returns-in_err-unsigned : goal.returns-in_err-unsigned
returns-in_err-unsigned c =
    refused_as c.from_residual.result c.in_err-unsigned.field-0.0 c.from_residual.ensures.1
    ∙ by_why c.in_err-unsigned.field-0.0
    ∙ ap (λ y. map_done with_sign (golomb_says y)) (sym c.in_err-unsigned.was)
    ∙ signed (goal.at.returns-in_err-unsigned c).After-unsigned_golomb
