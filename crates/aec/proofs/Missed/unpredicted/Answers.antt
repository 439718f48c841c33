-- What valueT becomes, widened with R and settled.
use Prim.Native.Nat.{◌%◌, ◌≤◌, ◌<◌, ℕ}
use mathlib.Core.Path.{sym, ◌∙◌}
use mathlib.Core.List.{List}
use native.Mathlib.Omega.{arith}
use borrow.Author.Rules.{rules}
use lib.ListN.{length}
use Rattle.answers.specs.Answers.{Outcome, and_then}
use Rattle.answers.proofs.OutcomeLaws.{stops, goes_on, stops_next}
use Rattle.bits.specs.Bits.{payload}
use Rattle.bits.proofs.BitLaws.{all_payload}
use Rattle.aec.specs.Bins.{widen_of, settle_of, unpredicted_of}
use Rattle.aec.specs.Inside.{of_split}
use Rattle.aec.specs.declared.Shift.{Shift}
use Rattle.aec.specs.declared.State.{State}
use Rattle.aec.proofs.RangeLaws.{StateRanges, state_ranges}
use Rattle.aec.proofs.ShiftLaws.{widened}
use Rattle.aec.proofs.StepLaws.{remainder_within}
use Rattle.aec.proofs.Missed.unpredicted.Goals as goal
use Rattle.aec.proofs.Missed.unpredicted.Goals.{Start, In_ok-v}

module _ (s : Start) where
  abbrev bits : List ℕ
  bits = let a = s.args.self.at.limited in payload a.bits.bytes.now a.bits.count

  -- the two steps before the value is settled
  abbrev widening : ℕ × ℕ → Outcome Shift
  widening v = widen_of bits v.0 s.args.self.split.range v.1

  abbrev settling : ℕ × ℕ → Shift → Outcome State
  settling v z = settle_of bits (z.beside % 256) z.value z.place

within : (c : In_ok-v) → let a = c.args.self.at in
    (c.in_ok-v.v.number < 768) × (a.state.place ≤ c.in_ok-v.v.next) × (c.in_ok-v.v.next ≤ length (payload a.limited.bits.bytes.now a.limited.bits.count))
within c =
    let a = c.args.self.at in
    let l = payload a.limited.bits.bytes.now a.limited.bits.count in
    let r : StateRanges (length l) a.state = state_ranges _ _ a.good in
    let v = c.in_ok-v.v in
    remainder_within l a.state (of_split c.args.self.split) (v.number, v.next) (all_payload a.limited.bits.bytes.now a.limited.bits.count) r.vt r.place (sym c.in_ok-v.ensures)

pub returns-in_err-v : goal.returns-in_err-v
unfolding unpredicted_of
returns-in_err-v c =
    let s = (goal.at.returns-in_err-v c).Start in
    let e = stops (λ v. and_then (widening s v) (settling s v)) c.in_err-v.ensures in
    search rules

pub widen-requires : goal.widen-requires
widen-requires c =
    let w = within c in
    let y = c.args.self.split in
    let some = y.range_some in
    (w.2, omega arith, y.range_fits)

pub returns-in_err-z : goal.returns-in_err-z
unfolding unpredicted_of
returns-in_err-z c =
    let s = (goal.at.returns-in_err-z c).Start in
    let e = stops_next (widening s) (settling s) c.in_ok-v.ensures c.in_err-z.ensures in
    search rules

pub settle-requires : goal.settle-requires
settle-requires c =
    let k = (goal.at.settle-requires c).In_ok-v in
    let a = c.args.self.at.limited in
    let y = c.args.self.split in
    let some = y.range_some in
    let w = within k in
    let h = widened (payload a.bits.bytes.now a.bits.count) _ _ _ c.in_ok-z.z (all_payload a.bits.bytes.now a.bits.count) w.2 (omega arith) y.range_fits (sym c.in_ok-z.ensures) in
    (h.3, omega arith)

pub returns : goal.returns
unfolding unpredicted_of
returns c =
    let s = (goal.at.returns c).Start in
    c.settle.ensures ∙ goes_on (widening s) (settling s) c.in_ok-v.ensures c.in_ok-z.z c.in_ok-z.ensures
