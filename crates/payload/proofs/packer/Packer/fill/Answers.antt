-- No bit is left, or one byte more is filled and written.
use native.Mathlib.Omega.{arith}
use Rattle.payload.proofs.EscapeLaws.{filled_none, filled_last}
use Rattle.payload.proofs.packer.Packer.fill.Goals as goal

pub returns-then-self-eq0 : goal.returns-then-self-eq0
returns-then-self-eq0 c = record { count = omega arith; written = filled_none c.args.out.now c.args.self c.if-self-eq0.true }

pub returns : goal.returns
returns c =
    let p = c.args.self in
    record { count = omega arith; written = filled_last c.args.out.now p c.if-self-eq0.false (omega (arith, c.requires.0)) }
