-- A body is stuffed where byte k is 80 and the bytes after it are all zero.
use Prim.Native.Nat.{ℕ, ◌+◌, ◌-◌}
use mathlib.Core.Path.{◌≡◌, sym, ap, ◌∙◌}
use mathlib.Core.Bool.{Bool, ◌&&◌}
use native.Mathlib.Omega.{arith}
use borrow.Author.Tests.{eq-eqb, ne_eqb}
use lib.ListN.{length, take, drop, length-drop}
use lib.Seq.{take_all}
use Rattle.layout.specs.Reader.{all_zero}
use Rattle.layout.proofs.EndLaws.{stuffed_at}
use Rattle.layout.proofs.is_stuffed.Goals as goal

pub returns-then-body-k : goal.returns-then-body-k
returns-then-body-k c = let a = c.args in
    let after = drop (a.k + 1) a.body.now in
    let all : take (length a.body.now - (a.k + 1)) after ≡ after = take_all _ after (omega (arith, length-drop {A = ℕ})) in
    c.all_zero.ensures
    ∙ ap all_zero all
    ∙ sym (stuffed_at a.body.now a.k c.requires (λ i. omega (arith, c.type_inv.body i)) ∙ ap (λ (t : Bool). t && all_zero after) (eq-eqb _ 128 c.if-body-k.true))

pub returns-else-body-k : goal.returns-else-body-k
returns-else-body-k c = let a = c.args in
    ne_eqb _ 128 c.if-body-k.false ∙ sym (stuffed_at a.body.now a.k c.requires (λ i. omega (arith, c.type_inv.body i)) ∙ rw (ne_eqb _ 128 c.if-body-k.false))
