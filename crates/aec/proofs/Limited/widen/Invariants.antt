-- What is left to do is the whole, at each turn.
use Prim.Native.Nat.{ℕ, ◌-◌, ◌*◌, ◌≤◌, ◌<◌}
use mathlib.Core.Path.{◌≡◌}
use mathlib.Core.Bool.{Bool}
use lib.Dec.{leb}
use lib.ListN.{length, drop}
use Rattle.bits.specs.Bits.{payload}
use Rattle.aec.specs.Bins.{shifts, widen_of}
use Rattle.aec.specs.declared.Shift.{Shift}
use Rattle.aec.proofs.Limited.widen.Given as goal

abbrev pub enough : Shift → Bool
enough z = leb 256 z.beside

abbrev pub twice : ℕ → ℕ
twice n = n * 2

abbrev pub invariant-loop-z : goal.invariant-loop-z
invariant-loop-z l =
    let bits = payload l.self.bits.bytes.now l.self.bits.count in
    (l.z.place ≤ length bits) × (l.z.value < 768 * l.z.beside) × (l.z.beside < 512)
    × (widen_of bits l.value l.range l.place ≡ shifts enough twice (drop l.z.place bits) l.z)

abbrev pub decreases-loop-z : goal.decreases-loop-z
decreases-loop-z l = length (payload l.self.bits.bytes.now l.self.bits.count) - l.z.place
