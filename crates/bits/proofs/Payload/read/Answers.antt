-- A number is read exactly where as many bits are left as it has.
use Rattle.std.specs.Prelude.{Ok}
use Prim.Native.Nat.{◌+◌, ◌-◌, ◌*◌, ◌/◌, ◌≤◌}
use mathlib.Core.Path.{sym, ap, ◌∙◌}
use native.Mathlib.Omega.{arith}
use lib.ListN.{length, drop, length-take}
use Rattle.bits.specs.Bits.{payload, read_on, read_at, read_says}
use Rattle.bits.proofs.BitLaws.{length_payload, within_wide, within_is}
use Rattle.bits.proofs.ReadLaws.{missing_exactly}
use Rattle.bits.proofs.ChunkLaws.{part_bits, bytes_read}
use Rattle.bits.proofs.Payload.read.Goals as goal
use Rattle.bits.proofs.Payload.read.Goals.{Else-width-eq0}

pub returns-then-width-gt32 : goal.returns-then-width-gt32
returns-then-width-gt32 c = sym (within_wide _ c.args.place c.args.width c.if-width-gt32.true)

pub returns-then-left-width : goal.returns-then-left-width
returns-then-left-width c =
    let a = c.args in
    let l = payload a.self.now.bytes.now a.self.now.count in
    let left = c.left-left.ensures in
    let m = (missing_exactly l a.place a.width (a.width - c.left-left.result)).1 (omega arith, omega arith) in
    sym (within_is l a.place a.width (omega arith) ∙ ap read_says m)

pub returns-then-width-eq0 : goal.returns-then-width-eq0
unfolding read_at read_on
returns-then-width-eq0 c = let w = c.if-width-eq0.true in sym (within_is _ c.args.place c.args.width (omega arith) ∙ rw w)

-- as many bits are left as it has, so its last is one of the payload's
module _ (c : Else-width-eq0) where
  fits : c.args.width ≤ 32
  fits = omega (arith, c.if-width-gt32.false)

  inside : c.args.place + c.args.width ≤ length (payload c.args.self.now.bytes.now c.args.self.now.count)
  inside = omega (arith, c.left-left.ensures, c.if-left-width.false, c.if-width-eq0.false)

  within : (c.args.place + c.args.width ≤ c.args.self.now.count) × (c.args.place + c.args.width ≤ length c.args.self.now.bytes.now * 8)
  within = let i = inside in let l = length_payload c.args.self.now.bytes.now c.args.self.now.count in (omega arith, omega arith)

pub overflow_add-last : goal.overflow_add-last
overflow_add-last c = omega (arith, within c)

pub slice_bounds-number-end : goal.slice_bounds-number-end
slice_bounds-number-end c = omega (arith, within (goal.at.slice_bounds-number-end c).Else-width-eq0, c.if-width-eq0.false)

pub number-value-requires : goal.number-value-requires
number-value-requires c =
    let a = c.args in
    omega (arith, c.if-width-gt32.false, length-take ((a.place + (a.width - 1)) / 8 + 1 - a.place / 8) (drop (a.place / 8) a.self.now.bytes.now))

pub returns : goal.returns
returns c =
    let a = c.args in
    let s = a.self.now.bytes.now in
    let (count, held) = within (goal.at.returns c).Else-width-eq0 in
    let some = c.if-width-eq0.false in
    let last = a.place + (a.width - 1) in
    let bits = part_bits s (a.place / 8) (last / 8 + 1 - a.place / 8) c.number-value.result (omega arith) c.number-value.ensures in
    let r = bytes_read s a.self.now.count a.place last a.width c.number-value.result (omega arith) (omega arith) bits in
    sym (within_is _ a.place a.width (fits (goal.at.returns c).Else-width-eq0) ∙ ap read_says r ∙ ap Ok (sym c.cut.ensures))
