-- valueT less t, at once or with the borrowed bit.
use Prim.Native.Nat.{ℕ, ◌+◌, ◌-◌}
use mathlib.Core.Path.{sym, ◌∙◌}
use native.Mathlib.Omega.{arith}
use borrow.Author.Rules.{rules}
use Rattle.answers.specs.Answers.{Outcome, done}
use Rattle.answers.proofs.OutcomeLaws.{stops, goes}
use Rattle.bits.specs.Bits.{payload}
use Rattle.bits.proofs.BitLaws.{all_payload}
use Rattle.aec.specs.Bins.{Parts}
use Rattle.aec.specs.Inside.{of_split}
use Rattle.aec.proofs.RangeLaws.{state_ranges}
use Rattle.aec.proofs.ShiftLaws.{Taken, taken}
use Rattle.aec.proofs.StepLaws.{missed, remainder_even, remainder_past}
use Rattle.aec.proofs.Missed.remainder.Goals as goal
use Rattle.aec.proofs.Missed.remainder.Goals.{In_ok-more}

-- what becomes of the doubled value
abbrev lessened : Parts → ℕ × ℕ → Outcome (ℕ × ℕ)
lessened y v = done (256 + v.0 - y.t, v.1)

pub overflow_sub-result : goal.overflow_sub-result
overflow_sub-result c = let a = c.args.self in missed a.at.state _ a.misses c.if-y-x.true

pub returns-then-y-x : goal.returns-then-y-x
returns-then-y-x c = remainder_even _ c.args.self.at.state _ c.if-y-x.true

pub take_bit-requires : goal.take_bit-requires
take_bit-requires c = let r = state_ranges _ _ c.args.self.at.good in omega arith

bound : (c : In_ok-more) → let a = c.args.self.at in
    Taken (payload a.limited.bits.bytes.now a.limited.bits.count) a.state.vt a.state.place c.in_ok-more.more.number c.in_ok-more.more.next
bound c = let a = c.args.self.at.limited in taken (payload a.bits.bytes.now a.bits.count) _ _ _ _ (all_payload a.bits.bytes.now a.bits.count) (sym c.in_ok-more.ensures)

pub overflow_add-result : goal.overflow_add-result
overflow_add-result c =
    let b = bound (goal.at.overflow_add-result c).In_ok-more in
    let r = state_ranges _ _ c.args.self.at.good in
    omega arith

pub returns-in_err-more : goal.returns-in_err-more
returns-in_err-more c =
    let a = c.args.self in
    let e = stops (lessened (of_split a.split)) c.in_err-more.ensures
    ∙ sym (remainder_past (payload a.at.limited.bits.bytes.now a.at.limited.bits.count) a.at.state (of_split a.split) c.if-y-x.false) in
    search rules

pub returns : goal.returns
returns c =
    let a = c.args.self in
    goes (lessened (of_split a.split)) c.in_ok-more.ensures
    ∙ sym (remainder_past (payload a.at.limited.bits.bytes.now a.at.limited.bits.count) a.at.state (of_split a.split) c.if-y-x.false)
