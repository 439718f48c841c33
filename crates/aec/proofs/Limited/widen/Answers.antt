-- What is left to do is the whole, at each turn.
use Prim.Native.Nat.{ℕ}
use mathlib.Core.Path.{refl, sym}
use mathlib.Core.List.{List}
use native.Mathlib.Omega.{arith}
use borrow.Author.Tests.{le-leb, lt-leb}
use borrow.Author.Rules.{rules}
use Rattle.bits.specs.Bits.{payload}
use Rattle.bits.proofs.BitLaws.{all_payload}
use Rattle.aec.proofs.ShiftLaws.{Taken, taken, loop_on, loop_stops, loop_ends}
use Rattle.aec.proofs.Limited.widen.Invariants.{enough, twice}
use Rattle.aec.proofs.Limited.widen.Goals as goal
use Rattle.aec.proofs.Limited.widen.Goals.{At-loop-z, In_ok-more}

abbrev bits : At-loop-z → List ℕ
bits l = let a = l.args in payload a.self.bits.bytes.now a.self.bits.count

pub loop-z-init : goal.loop-z-init
loop-z-init c = (search rules, search rules, search rules, refl)

bound : (c : In_ok-more) → Taken (payload c.args.self.bits.bytes.now c.args.self.bits.count) c.loop-z.z.value c.loop-z.z.place c.in_ok-more.more.number c.in_ok-more.more.next
bound c = let a = c.args in taken (payload a.self.bits.bytes.now a.self.bits.count) _ _ _ _ (all_payload a.self.bits.bytes.now a.self.bits.count) (sym c.in_ok-more.ensures)

pub loop-z-smaller : goal.loop-z-smaller
loop-z-smaller c = let b = bound (goal.at.loop-z-smaller c).In_ok-more in omega arith

pub loop-z-preserved : goal.loop-z-preserved
loop-z-preserved c =
    let l = (goal.at.loop-z-preserved c).At-loop-z in
    let b = bound (goal.at.loop-z-preserved c).In_ok-more in
    let h = lt-leb 256 _ c.loop-z-test.true in
    (omega arith, omega arith, omega arith, loop_on enough twice (bits l) l.loop-z.z _ c.loop-z.invariant.3 _ h c.in_ok-more.ensures)

pub returns-in_err-more : goal.returns-in_err-more
returns-in_err-more c =
    let l = (goal.at.returns-in_err-more c).At-loop-z in
    let h = lt-leb 256 _ c.loop-z-test.true in
    let e = loop_stops enough twice (bits l) l.loop-z.z _ c.loop-z.invariant.3 _ h c.in_err-more.ensures in
    search rules

pub returns : goal.returns
returns c =
    let l = (goal.at.returns c).At-loop-z in
    loop_ends enough twice (bits l) l.loop-z.z _ c.loop-z.invariant.3 (le-leb 256 _ c.loop-z-test.false)
