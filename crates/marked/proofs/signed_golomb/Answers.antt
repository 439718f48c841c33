-- The number and the place after it, or the refusal.
use mathlib.Core.Path.{ap}
use borrow.Author.Rules.{rules}
use lib.IntN.{ℤ}
use mir.Facts.{to_z-of_z}
use mir.Syntax.{w32}
use Rattle.payload.specs.Golomb.{golomb_says}
use Rattle.marked.specs.declared.SignedNumber.{SignedNumber}
use Rattle.marked.specs.Payloads.{signed_answer}
use Rattle.answers.proofs.OutcomeLaws.{arm_answers}
use Rattle.marked.proofs.signed_golomb.Goals as goal

pub returns-in-Ok : goal.returns-in-Ok
returns-in-Ok c =
    let answer : ℤ → SignedNumber = λ n. record { status = 0; missing = 0; number = n; place = c.in-Ok.found.next } in
    arm_answers (signed_answer c.args.place) golomb_says c.in-Ok.is c.signed_golomb.ensures (ap answer (to_z-of_z {w = w32} {z = c.in-Ok.found.number} (search rules)))
