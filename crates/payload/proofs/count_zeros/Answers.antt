-- The zeros that are left to count, after those that are counted, make the whole.
use Prim.Native.Nat.{ℕ, ◌+◌}
use mathlib.Core.Path.{◌≡◌, refl, sym, ◌∙◌}
use mathlib.Core.List.{List, ◌∷◌}
use native.Mathlib.Omega.{arith}
use borrow.Author.Tests.{eq-eqb}
use lib.ListN.{drop}
use Rattle.bits.specs.Bits.{payload}
use Rattle.bits.proofs.BitLaws.{length_payload, bit_read, bit_missing, bit_inside}
use Rattle.payload.proofs.GolombLaws.{zeros_more, zeros_one, zeros_out}
use Rattle.payload.proofs.count_zeros.Goals as goal
use Rattle.payload.proofs.count_zeros.Goals.{In-Some}

pub loop-zeros-init : goal.loop-zeros-init
loop-zeros-init c = refl

-- a turn reads the bit that heads what is left
module _ (c : In-Some) where
  abbrev bits : List ℕ
  bits = payload c.args.bits.now.bytes.now c.args.bits.now.count

  heads : drop c.loop-zeros.next bits ≡ c.in-Some.bit ∷ drop (c.loop-zeros.next + 1) bits
  heads = bit_read bits c.loop-zeros.next _ (sym c.bit.ensures ∙ c.in-Some.is)

pub overflow_add-next : goal.overflow_add-next
overflow_add-next c =
    let p = c.args.bits.now in
    omega (arith, bit_inside (bits c) c.loop-zeros.next _ _ (heads c), length_payload p.bytes.now p.count, c.requires)

pub returns-then-bit-ne0 : goal.returns-then-bit-ne0
returns-then-bit-ne0 c =
    let l = c.loop-zeros in
    let r = (goal.at.returns-then-bit-ne0 c).In-Some in
    sym (l.invariant ∙ zeros_one l.zeros l.next (bits r) (omega arith) _ _ (heads r) c.if-bit-ne0.true)

pub loop-zeros-preserved : goal.loop-zeros-preserved
loop-zeros-preserved c =
    let l = c.loop-zeros in
    let r = (goal.at.loop-zeros-preserved c).In-Some in
    l.invariant ∙ zeros_more l.zeros l.next (bits r) (omega arith) _ (heads r) c.if-bit-ne0.false

pub returns-in_default : goal.returns-in_default
returns-in_default c =
    let l = c.loop-zeros in
    let s = payload c.args.bits.now.bytes.now c.args.bits.now.count in
    sym (l.invariant ∙ zeros_out l.zeros l.next s (omega arith) (bit_missing s l.next (sym c.bit.ensures ∙ c.in_default.is)))

pub returns : goal.returns
returns c =
    let l = c.loop-zeros in
    sym (l.invariant ∙ simp (eq-eqb l.zeros 32 (omega arith)))
