-- Each third byte over 1 is a step of three; where the turn ends, its steps are added to those before it.
use Prim.Native.Nat.{ℕ, ◌+◌, ◌<◌}
use mathlib.Core.Path.{refl}
use native.Mathlib.Omega.{arith}
use mathlib.Core.List.{List}
use lib.ListN.{length, get_or}
use Rattle.startcode.specs.Inside.{Runs}
use Rattle.startcode.proofs.StepLaws.{runs_on}
use Rattle.startcode.proofs.steps_of_three.Goals as goal

-- one step of three, two, three and four of them from where the turn began
one : {s : List ℕ} {from i m : ℕ} → Runs s from i m → i + 12 < length s → 1 < get_or s (i + 3) 0 → Runs s from (i + 3) (m + 1)
one r h a = runs_on r (omega arith) (omega arith) (omega arith) a

two : {s : List ℕ} {from i m : ℕ} → Runs s from i m → i + 12 < length s → 1 < get_or s (i + 3) 0 → 1 < get_or s (i + 6) 0 → Runs s from (i + 6) (m + 2)
two r h a b = runs_on (one r h a) (omega arith) (omega arith) (omega arith) b

three : {s : List ℕ} {from i m : ℕ} → Runs s from i m → i + 12 < length s → 1 < get_or s (i + 3) 0 → 1 < get_or s (i + 6) 0
    → 1 < get_or s (i + 9) 0 → Runs s from (i + 9) (m + 3)
three r h a b d = runs_on (two r h a b) (omega arith) (omega arith) (omega arith) d

pub returns-then-stream-place-le1-2 : goal.returns-then-stream-place-le1-2
returns-then-stream-place-le1-2 c = one c.loop-place.invariant.1 c.loop-place-test.true c.if-stream-place-le1.false

pub returns-then-stream-place-le1-3 : goal.returns-then-stream-place-le1-3
returns-then-stream-place-le1-3 c = two c.loop-place.invariant.1 c.loop-place-test.true c.if-stream-place-le1.false c.if-stream-place-le1-2.false

pub returns-then-stream-place-le1-4 : goal.returns-then-stream-place-le1-4
returns-then-stream-place-le1-4 c =
    three c.loop-place.invariant.1 c.loop-place-test.true c.if-stream-place-le1.false c.if-stream-place-le1-2.false c.if-stream-place-le1-3.false

pub loop-place-preserved : goal.loop-place-preserved
loop-place-preserved c =
    let r = three c.loop-place.invariant.1 c.loop-place-test.true c.if-stream-place-le1.false c.if-stream-place-le1-2.false c.if-stream-place-le1-3.false in
    (refl, runs_on r (omega arith) (omega arith) (omega arith) c.if-stream-place-le1-4.false)
