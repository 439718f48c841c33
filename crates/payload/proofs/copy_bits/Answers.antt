-- What is pushed and what is still to come make the whole.
use native.Mathlib.Omega.{arith}
use Rattle.payload.proofs.EscapeLaws.{copying_start, copying_step, copying_end}
use Rattle.payload.proofs.copy_bits.Goals as goal

pub loop-byte-init : goal.loop-byte-init
loop-byte-init c = let (full, k) = c.new-packer.ensures in copying_start _ _ _ full k

pub push_kept-packer-requires : goal.push_kept-packer-requires
push_kept-packer-requires c = let inv = c.loop-byte.invariant in omega (arith, inv.bound, inv.same)

pub zeros_after-zeros-requires : goal.zeros_after-zeros-requires
zeros_after-zeros-requires c = omega (arith, c.loop-byte.invariant.few, c.requires.0)

pub loop-byte-preserved : goal.loop-byte-preserved
loop-byte-preserved c =
    let l = c.loop-byte in
    copying_step c.args.raw.now c.args.out.now l.out l.packer l.zeros l.byte-index l.invariant _ c.push_kept-packer.result c.zeros_after-zeros.result
    c.loop-byte-test.true c.zeros_after-zeros.ensures c.push_kept-packer.ensures

pub returns : goal.returns
returns c =
    let l = c.loop-byte in
    copying_end c.args.raw.now c.args.out.now l.out l.packer l.zeros l.byte-index l.invariant c.loop-byte-test.false
