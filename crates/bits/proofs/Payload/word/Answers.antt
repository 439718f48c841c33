-- The four bytes are there where 32 bits are left.
use Rattle.std.specs.Prelude.{Ok}
use Prim.Native.Nat.{ℕ, ◌+◌, ◌-◌, ◌*◌, ◌/◌, ◌%◌, ◌^◌, ◌≤◌}
use mathlib.Core.Path.{◌≡◌, sym, ap, ◌∙◌}
use mathlib.Core.List.{List}
use native.Mathlib.Omega.{arith}
use lib.ListN.{length, take, drop}
use Rattle.bits.specs.Bits.{bits_in, bits_of, payload, read_at}
use Rattle.bits.specs.Reader.{word_says}
use Rattle.bits.proofs.BitLaws.{length_payload}
use Rattle.bits.proofs.ChunkLaws.{part_bits, bytes_read}
use Rattle.bits.proofs.WordLaws.{word_few, word_is}
use Rattle.bits.proofs.Payload.word.Goals as goal
use Rattle.bits.proofs.Payload.word.Goals.{Else-left-lt32}

pub returns-then-left-lt32 : goal.returns-then-left-lt32
returns-then-left-lt32 c =
    let p = c.args.self.now in
    let left = c.left.ensures in
    sym (word_few (payload p.bytes.now p.count) c.args.place (omega arith))

-- where 32 bits are left, by the count and by the bytes
within : (c : Else-left-lt32) → 32 ≤ c.left.result → let p = c.args.self.now in
    (32 ≤ length (payload p.bytes.now p.count) - c.args.place) × (c.args.place + 32 ≤ p.count) × (c.args.place + 32 ≤ length p.bytes.now * 8)
within c h =
    let p = c.args.self.now in
    let left = c.left.ensures in
    let l = length_payload p.bytes.now p.count in
    (omega arith, omega arith, omega arith)

pub slice_bounds-number-end : goal.slice_bounds-number-end
slice_bounds-number-end c = omega (arith, within (goal.at.slice_bounds-number-end c).Else-left-lt32 c.if-left-lt32.false)

-- the bits that are left of the four bytes at place / 8
of_four : (s : List ℕ) (count place value : ℕ) → place + 32 ≤ count →
    take ((place / 8 + 4 - place / 8) * 8) (drop (place / 8 * 8) (bits_of s)) ≡ bits_in ((place / 8 + 4 - place / 8) * 8) value →
    read_at (payload s count) place (32 - place % 8) ≡ Ok (value / 2 ^ 0 % 2 ^ (32 - place % 8))
of_four s count place value h e =
    let last = place + (31 - place % 8) in
    let n : place / 8 + 4 ≡ last / 8 + 1 = omega arith in
    let z : 7 - last % 8 ≡ 0 = omega arith in
    rw z at (bytes_read s count place last (32 - place % 8) value (omega arith) (omega arith) (rw n at e))

pub returns : goal.returns
returns c =
    let p = c.args.self.now in
    let place = c.args.place in
    let (left, count, held) = within (goal.at.returns c).Else-left-lt32 c.if-left-lt32.false in
    let width = 32 - place % 8 in
    let bits = part_bits p.bytes.now (place / 8) (place / 8 + 4 - place / 8) c.number-value.result (omega arith) c.number-value.ensures in
    ap (λ (v : ℕ). word_says width (Ok v)) c.cut.ensures
    ∙ sym (word_is (payload p.bytes.now p.count) place (c.number-value.result / 2 ^ 0 % 2 ^ width) left (of_four p.bytes.now p.count place c.number-value.result count bits))
