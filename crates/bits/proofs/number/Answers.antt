-- What is read so far is what the bytes passed write.
use Prim.Native.Nat.{ℕ, ◌*◌, ◌^◌, ◌<◌}
use mathlib.Core.Path.{refl}
use native.Mathlib.Omega.{arith}
use lib.Pow.{pow_mono}
use Rattle.bits.specs.Bits.{bits_in, bits_of}
use Rattle.bits.proofs.ChunkLaws.{byte_more, byte_fits}
use Rattle.bits.proofs.number.Goals as goal

pub loop-byte-init : goal.loop-byte-init
unfolding bits_of bits_in
loop-byte-init c = (omega arith, refl)

-- at most four bytes are read before another
few : (i value : ℕ) → i < 5 → value < 2 ^ (i * 8) → value < 4294967296
few i value h v = omega (arith, pow_mono {i = i * 8} {j = 32} (omega arith))

pub overflow_mul-value : goal.overflow_mul-value
overflow_mul-value c =
    let l = c.loop-byte in
    omega (arith, few l.byte-index l.value (omega arith) l.invariant.0)

pub overflow_add-value : goal.overflow_add-value
overflow_add-value c =
    let l = c.loop-byte in
    omega (arith, few l.byte-index l.value (omega arith) l.invariant.0)

pub loop-byte-preserved : goal.loop-byte-preserved
loop-byte-preserved c =
    let l = c.loop-byte in
    let small = c.type_inv.bytes l.byte-index in
    let e = c.from.ensures in
    (byte_fits l.byte-index l.value _ l.invariant.0 (omega arith), byte_more c.args.bytes.now l.byte-index l.value _ (omega arith) e (omega arith) l.invariant.1)
