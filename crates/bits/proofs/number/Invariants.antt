-- What is read so far is what the bytes passed write.
use Prim.Native.Nat.{◌*◌, ◌^◌, ◌<◌}
use mathlib.Core.Path.{◌≡◌}
use lib.ListN.{take}
use Rattle.bits.specs.Bits.{bits_in, bits_of}
use Rattle.bits.proofs.number.Given as goal

abbrev pub invariant-loop-byte : goal.invariant-loop-byte
invariant-loop-byte l = (l.value < 2 ^ (l.byte-index * 8)) × (bits_of (take l.byte-index l.bytes) ≡ bits_in (l.byte-index * 8) l.value)
