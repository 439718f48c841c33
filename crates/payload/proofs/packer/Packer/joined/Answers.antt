-- Each turn picks a bit of the byte and joins it to those before.
use Prim.Native.Nat.{◌+◌, ◌*◌, ◌%◌, ◌<◌}
use mathlib.Core.Path.{◌≡◌}
use native.Mathlib.Omega.{arith}
use borrow.Author.Rules.{rules}
use Rattle.payload.proofs.JoinedLaws.{joined_none, joined_small, joined_more}
use Rattle.payload.proofs.packer.Packer.joined.Goals as goal
use Rattle.payload.proofs.packer.Packer.joined.Goals.{After-bit_of}

pub loop-j-init : goal.loop-j-init
loop-j-init c = joined_none _ _

-- nothing is shifted out
module _ (c : After-bit_of) where
  small : c.loop-j.value < 65536
  small = joined_small _ _ c.loop-j.j c.loop-j.value c.loop-j.invariant (search rules)

  sum_is : c.loop-j.value * 2 % 4294967296 + c.bit_of.result ≡ c.loop-j.value * 2 + c.bit_of.result
  sum_is = omega (arith, small)

pub overflow_add-value : goal.overflow_add-value
overflow_add-value c = omega (arith, small c, c.bit_of.ensures.1)

pub loop-j-preserved : goal.loop-j-preserved
loop-j-preserved c =
    let t = c.loop-j in
    let (is, low) = c.bit_of.ensures in
    rw (sum_is c) (joined_more _ _ t.j t.value t.invariant c.bit_of.result (search rules) is low)

pub returns : goal.returns
returns c = let l = c.loop-j in let e : l.j ≡ c.args.width = omega arith in rw (← e) l.invariant
