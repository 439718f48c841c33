-- The bytes that are left are trimmed to what all are.
use Prim.Native.Nat.{ℕ}
use mathlib.Core.Path.{◌≡◌, sym, ap, ◌∙◌}
use native.Mathlib.Omega.{arith}
use borrow.Author.Rules.{rules}
use lib.ListN.{length, take}
use lib.Seq.{length-take-le}
use Rattle.grammar.specs.Rows.{trimmed}
use Rattle.units.proofs.LengthLaws.{trim_more, trim_end, trim_all}
use Rattle.units.proofs.trimmed_length.Goals as goal

pub loop-n-init : goal.loop-n-init
loop-n-init c = (search rules, ap length (trim_all c.args.body.now))

pub returns-then-body-n-ne0 : goal.returns-then-body-n-ne0
returns-then-body-n-ne0 c = let b = c.args.body.now in sym (c.loop-n.invariant.1 ∙ ap length (trim_end b c.loop-n.n (omega arith) c.loop-n.invariant.0 c.if-body-n-ne0.true) ∙ length-take-le c.loop-n.n b c.loop-n.invariant.0)

pub loop-n-preserved : goal.loop-n-preserved
loop-n-preserved c = let b = c.args.body.now in (search rules, c.loop-n.invariant.1 ∙ ap length (trim_more b c.loop-n.n (omega arith) c.loop-n.invariant.0 c.if-body-n-ne0.false))

pub returns : goal.returns
returns c = let b = c.args.body.now in let e : c.loop-n.n ≡ 0 = omega arith in sym (c.loop-n.invariant.1 ∙ ap (λ (n : ℕ). length (trimmed (take n b))) e)
