-- What is left to do is the whole, at each turn.
use Prim.Native.Nat.{ℕ, ◌+◌, ◌-◌, ◌≤◌, ◌<◌}
use mathlib.Core.Path.{◌≡◌}
use mathlib.Core.Bool.{Bool}
use lib.Dec.{leb}
use lib.ListN.{length, drop}
use Rattle.bits.specs.Bits.{payload}
use Rattle.aec.specs.Bins.{shifts, normalise_of}
use Rattle.aec.specs.declared.Shift.{Shift}
use Rattle.aec.proofs.Limited.normalise.Given as goal

abbrev pub enough : Shift → Bool
enough z = leb 256 z.value

abbrev pub counted : ℕ → ℕ
counted n = n + 1

abbrev pub invariant-loop-z : goal.invariant-loop-z
invariant-loop-z l =
    let bits = payload l.self.bits.bytes.now l.self.bits.count in
    (l.z.place ≤ length bits) × (l.z.beside ≤ l.z.place) × (l.z.value < 1048576)
    × (normalise_of bits l.value l.place ≡ shifts enough counted (drop l.z.place bits) l.z)

abbrev pub decreases-loop-z : goal.decreases-loop-z
decreases-loop-z l = length (payload l.self.bits.bytes.now l.self.bits.count) - l.z.place
