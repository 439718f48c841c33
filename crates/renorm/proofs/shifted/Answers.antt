-- The bits at hand are too few, or both loops are shifts.
use Prim.Native.Nat.{ℕ, ◌-◌, ◌*◌, ◌%◌, ◌^◌, ◌<◌}
use mathlib.Core.Path.{◌≡◌, sym, subst}
use lib.Pow.{mod-mod-pow}
use Rattle.renorm.specs.Reader.{needed_of}
use Rattle.renorm.proofs.ShiftedLaws.{short_at, done_at}
use Rattle.renorm.proofs.shifted.Goals as goal

pub returns-then-most-n : goal.returns-then-most-n
returns-then-most-n c =
    let a = c.args in
    let k = c.doublings-k.ensures.0 in
    sym (short_at a.value a.left a.width a.range
    (subst (λ (j : ℕ). a.left - j < needed_of a.value (a.left - j)) k (subst (λ (m : ℕ). a.left - c.doublings-k.result < m) c.needed-n.ensures c.if-most-n.true)))

pub returns : goal.returns
returns c =
    let a = c.args in
    let k = c.doublings-k.result in
    let m : a.range * 2 ^ k % 4294967296 % 256 ≡ a.range * 2 ^ k % 256 = mod-mod-pow (a.range * 2 ^ k) 24 8 in
    rw m (sym (done_at a.value a.left a.width a.range k c.needed-n.result c.doublings-k.ensures.0 c.needed-n.ensures c.if-most-n.false))
