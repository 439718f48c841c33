-- The bits that wait are fewer than eight, and all wait; else a byte is written.
use Prim.Native.Nat.{◌-◌}
use native.Mathlib.Omega.{arith}
use Rattle.payload.proofs.EscapeLaws.{pushed_out, pushed_in}
use Rattle.payload.proofs.packer.Packer.push.Goals as goal

pub returns-then-self-missing : goal.returns-then-self-missing
returns-then-self-missing g c = pushed_in c.args.out.now c.args.self c.args.byte g.row.WIDTH c.joined-value.result c.joined-value.ensures _

pub returns : goal.returns
returns g c =
    let p = c.args.self in
    let w = g.row.WIDTH in
    pushed_out c.args.out.now p c.args.byte w c.joined-value.result c.joined-value.ensures (p.k - (8 - w)) _ (omega (arith, c.requires.1)) c.requires.1 c.requires.0
