-- The count, or eight bits for each byte where that is fewer.
use native.Mathlib.Omega.{arith}
use Rattle.bits.proofs.BitLaws.{length_payload}
use Rattle.aec.proofs.Limited.bit_length.Goals as goal

pub returns : goal.returns
returns c =
    let a = c.args.self.bits in
    let e = c.min.ensures in
    omega (arith, length_payload a.bytes.now a.count)
