-- The entry of the rate whose w it is, or the mark.
use Prim.Native.Nat.{ℕ}
use mathlib.Core.Path.{◌≡◌, refl, sym, ap, ◌∙◌}
use native.Mathlib.Omega.{arith}
use borrow.Author.Tests.{ne_eqb}
use Rattle.std.proofs.Common.{Option}
use Rattle.marked.specs.Payloads.{entry_number, entry_answer}
use Rattle.marked.proofs.next_lg.Goals as goal

-- the number of an entry that is the answer's for a w
told : (index : ℕ) {number w v : ℕ} {entry answered : Option ℕ} → number ≡ entry_number entry → entry ≡ answered → w ≡ v → entry_number answered ≡ entry_answer v index
    → number ≡ entry_answer w index
told index number_is entry-is w-is answer = number_is ∙ ap entry_number entry-is ∙ answer ∙ sym (ap (λ w. entry_answer w index) w-is)

pub returns-in-3 : goal.returns-in-3
unfolding entry_answer
returns-in-3 c = told c.args.index c.entry_number.ensures c.entry_at.ensures c.in-3.is refl

pub returns-in-4 : goal.returns-in-4
unfolding entry_answer
returns-in-4 c = told c.args.index c.entry_number-in-4.ensures c.entry_at-in-4.ensures c.in-4.is refl

pub returns-in-5 : goal.returns-in-5
unfolding entry_answer
returns-in-5 c = told c.args.index c.entry_number-in-5.ensures c.entry_at-in-5.ensures c.in-5.is refl

pub returns-in_default : goal.returns-in_default
unfolding entry_answer
returns-in_default c =
    let w = c.args.w in
    simp (ne_eqb w 3 (λ e. omega arith), ne_eqb w 4 (λ e. omega arith), ne_eqb w 5 (λ e. omega arith))
