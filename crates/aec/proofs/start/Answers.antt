-- The first nine bits, and then the state that they settle to.
use Rattle.std.specs.Prelude.{Result, Ok, Err}
use Prim.Native.Nat.{ℕ}
use mathlib.Core.Path.{◌≡◌, sym, ap, ◌∙◌}
use mathlib.Core.List.{List}
use native.Mathlib.Omega.{arith}
use Rattle.answers.specs.Answers.{Outcome}
use Rattle.answers.specs.Missing.{payload_out}
use Rattle.bits.specs.Bits.{payload, read_at, read_or}
use Rattle.bits.specs.declared.ReadError.{ReadError}
use Rattle.bits.proofs.BitLaws.{within_value, within_missing, never_wide}
use Rattle.aec.specs.Bins.{settle_of, start_of}
use Rattle.aec.specs.declared.State.{State}
use Rattle.aec.proofs.StepLaws.{limit_passed, limit_kept, nine_bits}
use Rattle.aec.proofs.GoodLaws.{settle_refused}
use Rattle.aec.proofs.start.Goals as goal
use Rattle.aec.proofs.start.Goals.{After-read}

pub returns-then-bits-gt-LIMIT : goal.returns-then-bits-gt-LIMIT
unfolding start_of
returns-then-bits-gt-LIMIT c = limit_passed _ _ c.if-bits-gt-LIMIT.true

pub settle-requires : goal.settle-requires
settle-requires c =
    let a = c.args in
    let n = nine_bits a.bits.bytes.now a.bits.count _ (within_value _ 0 9 (omega arith) _ (sym c.read.ensures ∙ c.in-Ok.is)) in
    (n.0, omega arith)

-- the answer goes by the read
module _ (c : After-read) where
  abbrev bits : List ℕ
  bits = payload c.args.bits.bytes.now c.args.bits.count

  abbrev by_read : Result ℕ ℕ → Outcome State
  by_read = read_or (λ vt. settle_of bits 255 vt 9) payload_out

  answer : by_read (read_at bits 0 9) ≡ start_of c.args.bits.bytes.now c.args.bits.count
  unfolding start_of
  answer = limit_kept _ _ c.if-bits-gt-LIMIT.false

started : (c : After-read) (v : ℕ) → ◌≡◌ {A = Result ℕ ReadError} c.read.result (Ok v) → settle_of (bits c) 255 v 9 ≡ start_of c.args.bits.bytes.now c.args.bits.count
started c v e =
    let r = within_value (bits c) 0 9 (omega arith) _ (sym c.read.ensures ∙ e) in
    ap (by_read c) (sym r) ∙ answer c

pub returns-in-Ok-settle : goal.returns-in-Ok-settle
returns-in-Ok-settle c = c.in-Ok-settle.ensures ∙ started (goal.at.returns-in-Ok-settle c).After-read c.in-Ok.value c.in-Ok.is

pub returns-in-Err : goal.returns-in-Err
returns-in-Err c =
    let r = (goal.at.returns-in-Err c).After-read in
    let v = c.in-Ok.value in
    settle_refused (bits r) 255 v 9 c.in-Err.field-0 c.in-Err.ensures ∙ started r v c.in-Ok.is

pub returns-in-Err-Missing : goal.returns-in-Err-Missing
returns-in-Err-Missing c =
    let r = (goal.at.returns-in-Err-Missing c).After-read in
    let m = within_missing (bits r) 0 9 (omega arith) _ (sym c.read.ensures ∙ c.in-Err-Missing.is ∙ ap Err c.in-Err-Missing.field-0-is) in
    ap (payload_out {A = State}) c.in-Err-Missing.missing-is ∙ ap (by_read r) (sym m) ∙ answer r

pub returns-in-Err-TooWide : goal.returns-in-Err-TooWide
returns-in-Err-TooWide c = never_wide (bits (goal.at.returns-in-Err-TooWide c).After-read) 0 9 (omega arith) (sym c.read.ensures ∙ c.in-Err-TooWide.is ∙ ap Err c.in-Err-TooWide.field-0-is)
