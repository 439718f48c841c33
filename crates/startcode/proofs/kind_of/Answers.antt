-- An arm's code selects its row of the table; in the last arm no row holds the code.
use native.Mathlib.Omega.{arith}
use borrow.Author.Tests.{le-leb, lt-leb}
use lib.Dec.{leb-zero}
use Rattle.startcode.specs.Kinds.{kind_of}
use Rattle.startcode.proofs.PrefixLaws.{outside}
use Rattle.startcode.proofs.kind_of.Goals as goal

pub returns-in-176 : goal.returns-in-176
unfolding kind_of
returns-in-176 c = rw c.in-176.is

pub returns-in-177 : goal.returns-in-177
unfolding kind_of
returns-in-177 c = rw c.in-177.is

pub returns-in-178 : goal.returns-in-178
unfolding kind_of
returns-in-178 c = rw c.in-178.is

pub returns-in-179 : goal.returns-in-179
unfolding kind_of
returns-in-179 c = rw c.in-179.is

pub returns-in-181 : goal.returns-in-181
unfolding kind_of
returns-in-181 c = rw c.in-181.is

pub returns-in-182 : goal.returns-in-182
unfolding kind_of
returns-in-182 c = rw c.in-182.is

pub returns-in-183 : goal.returns-in-183
unfolding kind_of
returns-in-183 c = rw c.in-183.is

pub returns-in-0-to-175 : goal.returns-in-0-to-175
unfolding kind_of
returns-in-0-to-175 c = simp (leb-zero, le-leb c.args.code 175 (omega arith))

pub returns-in_default : goal.returns-in_default
unfolding kind_of
returns-in_default c =
    let m = c.in_default.in_default-own.rest in
    simp (
      leb-zero,
      lt-leb _ _ c.in_default.if-code-lt176-own.false,
      outside _ _ m.1,
      outside _ _ m.0.1,
      outside _ _ m.0.0.1,
      outside _ _ m.0.0.0.1,
      outside _ _ m.0.0.0.0.1,
      outside _ _ m.0.0.0.0.0.1,
      outside _ _ m.0.0.0.0.0.0.1,
    )
