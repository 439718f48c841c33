-- The answer goes by the zeros, and then by the one read of the bits after the 1.
use Rattle.std.specs.Prelude.{Result, Ok}
use Prim.Native.Nat.{ℕ, ◌+◌, ◌-◌, ◌*◌, ◌%◌, ◌^◌, ◌≤◌}
use mathlib.Core.Path.{◌≡◌, sym, ap, ◌∙◌}
use native.Mathlib.Omega.{arith}
use native.Mathlib.Nat.{one-mul}
use lib.Pow.{shl_exact, pow_pos}
use lib.ListN.{length}
use Rattle.answers.specs.Answers.{Outcome, done}
use Rattle.bits.specs.Bits.{payload, read_at}
use Rattle.bits.specs.declared.ReadError.{ReadError}
use Rattle.bits.proofs.BitLaws.{within_value, within_err}
use Rattle.payload.specs.Golomb.{golomb_refused, read_refused}
use Rattle.payload.specs.declared.Numbered.{Numbered}
use Rattle.payload.specs.Reader.{golomb_after, golomb, number_of}
use Rattle.payload.proofs.GolombLaws.{refused_as, golomb_long, golomb_after_lem, zeros_bounds, number_lt}
use Rattle.payload.proofs.unsigned_golomb.Goals as goal
use Rattle.payload.proofs.unsigned_golomb.Goals.{After-count_zeros, After-read}

pub returns-then-bits-gt-LIMIT : goal.returns-then-bits-gt-LIMIT
returns-then-bits-gt-LIMIT c = let p = c.args.bits.now in golomb_long p.bytes.now p.count c.args.place c.if-bits-gt-LIMIT.true

-- the answer is golomb's, at the zeros that were counted
counted : (c : After-count_zeros) →
    let p = c.args.bits.now in
    golomb_after (payload p.bytes.now p.count) c.count_zeros.result ≡ golomb p.bytes.now p.count c.args.place
counted c =
    let p = c.args.bits.now in
    golomb_after_lem p.bytes.now p.count c.args.place c.count_zeros.result c.if-bits-gt-LIMIT.false c.count_zeros.ensures

pub returns-in_err-zeros : goal.returns-in_err-zeros
returns-in_err-zeros c =
    let p = c.args.bits.now in
    refused_as c.from_residual.result c.in_err-zeros.field-0.0 c.from_residual.ensures.1
    ∙ ap (golomb_after (payload p.bytes.now p.count)) (sym c.in_err-zeros.was) ∙ counted (goal.at.returns-in_err-zeros c).After-count_zeros

-- with zeros before a 1: the answer is that of the read after it
module _ (c : After-read) where
  abbrev z : ℕ
  z = c.in_ok-zeros.zeros.number

  abbrev at : ℕ
  at = c.in_ok-zeros.zeros.next

  read_answer :
      let p = c.args.bits.now in
      number_of z at (read_at (payload p.bytes.now p.count) at z) ≡ golomb p.bytes.now p.count c.args.place
  read_answer =
      let p = c.args.bits.now in
      ap (golomb_after (payload p.bytes.now p.count)) (sym c.in_ok-zeros.was) ∙ golomb_after_lem p.bytes.now p.count c.args.place c.count_zeros.result c.if-bits-gt-LIMIT.false c.count_zeros.ensures

  bounds : (z ≤ 31) × (at ≤ length c.args.bits.now.bytes.now * 8)
  bounds =
      let p = c.args.bits.now in
      zeros_bounds p.bytes.now p.count c.args.place c.in_ok-zeros.zeros (sym c.count_zeros.ensures ∙ c.in_ok-zeros.was)

  -- what was read is the read's own answer, since at most 31 bits were asked for
  read_value : (b : ℕ) → ◌≡◌ {A = Result ℕ ReadError} c.read.result (Ok b) →
      let p = c.args.bits.now in
      read_at (payload p.bytes.now p.count) at z ≡ Ok b
  read_value b e = let h = bounds.0 in within_value _ at z (omega arith) b (sym c.read.ensures ∙ e)

  -- the shift loses nothing
  base : (1 * 2 ^ z) % 4294967296 ≡ 2 ^ z
  base = let h = bounds.0 in shl_exact 1 z 32 (omega arith) (omega arith) ∙ simp one-mul

pub overflow_shl-result : goal.overflow_shl-result
overflow_shl-result c = let b = bounds (goal.at.overflow_shl-result c).After-read in omega (arith, b.0)

pub overflow_sub-result : goal.overflow_sub-result
overflow_sub-result c =
    let r = (goal.at.overflow_sub-result c).After-read in
    omega (arith, base r, pow_pos (z r))

pub overflow_add-result : goal.overflow_add-result
overflow_add-result c =
    let r = (goal.at.overflow_add-result c).After-read in
    let p = c.args.bits.now in
    let n = number_lt p.bytes.now p.count c.args.place (z r) (at r) c.in_ok-rest.rest (bounds r).0 (read_value r _ c.in_ok-rest.was) in
    omega (arith, base r)

pub overflow_add-result-2 : goal.overflow_add-result-2
overflow_add-result-2 c =
    let b = bounds (goal.at.overflow_add-result-2 c).After-read in
    omega (arith, b.0, b.1, c.if-bits-gt-LIMIT.false)

pub returns : goal.returns
returns c =
    let r = (goal.at.returns c).After-read in
    let answer : ℕ → Outcome (Numbered ℕ) = λ p. done (record { number = p - 1 + c.in_ok-rest.rest; next = at r + z r }) in
    ap answer (base r)
    ∙ ap (number_of (z r) (at r)) (sym (read_value r _ c.in_ok-rest.was))
    ∙ read_answer r

pub returns-in_err-rest : goal.returns-in_err-rest
returns-in_err-rest c =
    let r = (goal.at.returns-in_err-rest c).After-read in
    let h = (bounds r).0 in
    let (m, left, lacks) = within_err _ (at r) (z r) (omega arith) _ (sym c.read.ensures ∙ c.in_err-rest.was) in
    refused_as c.from_residual-in_err-rest.result (read_refused c.in_err-rest.field-0.0) c.from_residual-in_err-rest.ensures.1
    ∙ ap (λ (e : ReadError). golomb_refused (read_refused e)) lacks
    ∙ ap (number_of (z r) (at r)) (sym left) ∙ read_answer r
