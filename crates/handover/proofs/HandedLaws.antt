-- Laws of what is handed over.
use Prim.Native.Nat.{ℕ, ◌≤◌, ◌<◌}
use mathlib.Core.Path.{◌≡◌, refl, sym, ap, ◌∙◌}
use mathlib.Core.List.{List, [], ◌++◌, append_assoc}
use mathlib.Core.Bool.{Bool, cond}
use borrow.Author.Tests.{le-leb, lt-leb}
use borrow.Rule.Slice.PartMut.{put_mid}
use lib.ListN.{length, drop, length-append}
use lib.Seq.{take_at, drop_at, drop-drop}
use Rattle.answers.specs.Answers.{done, refused, map_done, FULL}
use Rattle.statuses.specs.declared.Answer.{Answer}
use Rattle.statuses.specs.Answers.{counted}
use Rattle.handover.specs.Answers.{handed, over, left, answered, after}
use Rattle.handover.specs.Inside.{Handed}

-- ── numbers in lent memory ──

-- numbers stand first, and more are put in the part after them
pub put_after : (us vs lent : List ℕ) (k : ℕ) → k ≡ length vs → put_mid (length us) k (us ++ drop (length us) lent) vs ≡ over (us ++ vs) lent
put_after us vs lent k e =
    let rest = drop (length us) lent in
    (λ i. take_at us rest (length us) refl i ++ (vs ++ drop k (drop_at us rest (length us) refl i)))
    ∙ ap (λ (j : ℕ). us ++ (vs ++ drop j rest)) e
    ∙ ap (λ l. us ++ (vs ++ l)) (drop-drop (length vs) (length us) lent ∙ ap (λ (n : ℕ). drop n lent) (sym (length-append us vs)))
    ∙ sym (append_assoc us vs _)

-- ── an answer and what it leaves ──

-- numbers are handed over where there is room for all
pub handed_all : {r : Answer} {kept : List ℕ} (vs lent : List ℕ) → length vs ≤ length lent → r ≡ counted (done (length vs)) → kept ≡ over vs lent → Handed r kept (done vs) lent
unfolding answered after
handed_all vs lent h d k =
    let e : handed (done vs) (length lent) ≡ done vs = ap (λ (b : Bool). cond b (done vs) (refused FULL [])) (le-leb _ _ h) in
    (d ∙ sym (ap (λ o. counted (map_done length o)) e), k ∙ sym (ap (λ o. left o lent) e))

-- FULL where there is not
pub handed_full : {r : Answer} (vs lent : List ℕ) → length lent < length vs → r ≡ counted (refused FULL []) → Handed r lent (done vs) lent
unfolding answered after
handed_full vs lent h d =
    let e : handed (done vs) (length lent) ≡ refused FULL [] = ap (λ (b : Bool). cond b (done vs) (refused FULL [])) (lt-leb _ _ h) in
    (d ∙ sym (ap (λ o. counted (map_done length o)) e), sym (ap (λ o. left o lent) e))
