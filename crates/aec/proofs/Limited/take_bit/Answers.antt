-- The bit that is read heads what is left.
use Prim.Native.Nat.{ℕ, ◌+◌, ◌<◌}
use mathlib.Core.Path.{◌≡◌, sym, ◌∙◌}
use mathlib.Core.List.{List, ◌∷◌}
use native.Mathlib.Omega.{arith}
use lib.ListN.{length, drop}
use Rattle.bits.specs.Bits.{payload}
use Rattle.bits.proofs.BitLaws.{length_payload, all_payload, bit_read, bit_missing, bit_small, bit_inside}
use Rattle.aec.proofs.ShiftLaws.{double_bit, double_none}
use Rattle.aec.proofs.Limited.take_bit.Goals as goal
use Rattle.aec.proofs.Limited.take_bit.Goals.{In-Some}

module _ (c : In-Some) where
  abbrev left : List ℕ
  left = payload c.args.self.bits.bytes.now c.args.self.bits.count

  abbrev bit : ℕ
  bit = c.in-Some.bit

  heads : drop c.args.place left ≡ bit ∷ drop (c.args.place + 1) left
  heads = bit_read left c.args.place bit (sym c.bit.ensures ∙ c.in-Some.is)

  small : bit < 2
  small = bit_small left c.args.place bit _ (all_payload c.args.self.bits.bytes.now c.args.self.bits.count) heads

  inside : c.args.place < length left
  inside = bit_inside left c.args.place bit _ heads

pub overflow_add-result : goal.overflow_add-result
overflow_add-result c = omega (arith, small c)

pub overflow_add-result-in-Some : goal.overflow_add-result-in-Some
overflow_add-result-in-Some c = omega (arith, inside c, length_payload c.args.self.bits.bytes.now c.args.self.bits.count)

pub returns-in-Some : goal.returns-in-Some
returns-in-Some c = double_bit (left c) c.args.value c.args.place (bit c) (heads c)

pub returns-in-None : goal.returns-in-None
returns-in-None c =
    let a = c.args in
    let l = payload a.self.bits.bytes.now a.self.bits.count in
    double_none l a.value a.place (bit_missing l a.place (sym c.bit.ensures ∙ c.in-None.is))
