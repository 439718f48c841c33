-- All numbers, or FULL.
use Prim.Native.Nat.{ℕ, ◌+◌, ◌-◌}
use mathlib.Core.Path.{sym, ap, ◌∙◌}
use mathlib.Core.List.{◌++◌}
use native.Mathlib.Omega.{arith}
use borrow.Rule.Slice.PartMut.{put_mid}
use lib.ListN.{length, drop, length-append}
use Rattle.answers.specs.Answers.{done}
use Rattle.statuses.specs.Answers.{counted}
use Rattle.handover.proofs.HandedLaws.{put_after, handed_all, handed_full}
use Rattle.handover.proofs.hand_both.Goals as goal

pub returns-then-numbers-count : goal.returns-then-numbers-count
returns-then-numbers-count c =
    let a = c.args in
    let e = length-append a.values.now a.more.now in
    handed_full (a.values.now ++ a.more.now) a.numbers.now (omega arith) c.refusal.ensures

pub returns : goal.returns
returns c =
    let a = c.args in
    let us = a.values.now in
    let vs = a.more.now in
    let k : ℕ = length us + length vs - length us in
    let e = length-append us vs in
    handed_all (us ++ vs) a.numbers.now
    (omega arith)
    (c.handed.ensures ∙ ap (λ (m : ℕ). counted (done m)) (sym e))
    ((λ i. put_mid (length us) k (c.copy_from_slice.ensures.after i ++ drop (length us) a.numbers.now) (c.copy_from_slice-2.ensures.after i))
    ∙ put_after us vs a.numbers.now k (omega arith))
