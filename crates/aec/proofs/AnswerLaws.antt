-- An answer told from what it says.
use Rattle.std.proofs.Common.{Result, Ok, Err}
use mathlib.Core.Path.{◌≡◌, refl, ap}
use mathlib.Core.Bool.{cond}
use lib.Dec.{eqb}
use Rattle.answers.specs.Answers.{Outcome, done, refused, TOO_LONG, BAD_STATE, OneToOne}
use Rattle.answers.proofs.OutcomeLaws.{undone}
use Rattle.aec.specs.Says.{refusal_says, says}
use Rattle.aec.specs.declared.Refusal.{Refusal}
use Rattle.aec.specs.declared.Refusal.TheVariants as refusal

abbrev pub answer : {A B : Type 0} → (A → B) → (Refusal → B) → Outcome A → B
answer value refuse (done x) = value x
answer value refuse (refused n carried) = refuse (cond (eqb n TOO_LONG) refusal.TooLong (cond (eqb n BAD_STATE) refusal.BadState refusal.PayloadOut))

pub answer_refused : {A B : Type 0} (value : A → B) (refuse : Refusal → B) (r : Refusal) → answer value refuse (refusal_says r) ≡ refuse r
answer_refused value refuse refusal.TooLong = refl
answer_refused value refuse refusal.BadState = refl
answer_refused value refuse refusal.PayloadOut = refl

-- two answers whose values can be told from what they are told as do not say the same
pub says_apart : {A B : Type 0} (told : A → B) (back : B → A) → ((a : A) → back (told a) ≡ a) → OneToOne (says told)
says_apart {A} told back is = undone (says told) (answer (λ b. Ok (back b)) Err) again
  where
    again : (r : Result A Refusal) → answer (λ b. Ok (back b)) Err (says told r) ≡ r
    again (Ok a) = ap Ok (is a)
    again (Err why) = answer_refused (λ b. Ok (back b)) Err why
