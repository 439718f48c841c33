-- A bit is there exactly where the count and the bytes reach it.
use Prim.Native.Nat.{ℕ, ◌-◌, ◌/◌, ◌%◌, ◌^◌}
use mathlib.Core.Path.{ap, ◌∙◌}
use native.Mathlib.Omega.{arith}
use lib.Bits.{and_mask}
use Rattle.std.specs.Prelude.{Some}
use Rattle.bits.proofs.BitLaws.{payload_end, payload_bit, bit_here, bit_none}
use Rattle.bits.proofs.Payload.bit.Goals as goal

pub returns-then-self-place : goal.returns-then-self-place
returns-then-self-place c = let p = c.args.self.now in bit_none _ c.args.place (payload_end p.bytes.now p.count c.args.place (omega arith))

pub returns-then-self-at : goal.returns-then-self-at
returns-then-self-at c = let p = c.args.self.now in bit_none _ c.args.place (payload_end p.bytes.now p.count c.args.place (omega arith))

pub returns : goal.returns
returns c =
    let p = c.args.self.now in
    let place = c.args.place in
    let shift = 7 - place % 8 in
    ap Some (and_mask (c.from.result / 2 ^ shift) 1 ∙ ap (λ (x : ℕ). x / 2 ^ shift % 2) c.from.ensures)
    ∙ bit_here _ place _ _ (payload_bit p.bytes.now p.count place c.if-self-place.false c.if-self-at.false)
