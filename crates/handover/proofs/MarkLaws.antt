-- The bit of an answer that hands numbers over.
use Prim.Native.Nat.{ℕ}
use mathlib.Core.Path.{◌≡◌, refl, sym, subst}
use mathlib.Core.Logic.{⊎_elim}
use mathlib.Core.List.{List, [], ◌∷◌}
use mathlib.Core.Bool.{Bool, true, false, cond}
use native.Mathlib.Omega.{arith}
use lib.Dec.{leb}
use lib.ListN.{length}
use Rattle.answers.specs.Answers.{Carried, Outcome, done, refused, map_done, NO_ROW, FULL}
use Rattle.groups.specs.Reader.{group_at}
use Rattle.groups.proofs.Main as groups
use Rattle.statuses.specs.Answers.{counted, BitMarked}
use Rattle.statuses.proofs.MarkLaws.{marked_done, marked_none, marked_stream}
use Rattle.handover.specs.Answers.{answered}

-- what is refused before anything is handed over decides
abbrev RefusalMarked : {A : Type 0} → Outcome A → Type 0
RefusalMarked o = (n : ℕ) (carried : List Carried) → o ≡ refused n carried → BitMarked (counted (refused n carried))

full_marked : BitMarked (counted (refused FULL []))
full_marked = marked_none FULL (⊎_elim (λ e. omega arith) (λ e. omega arith))

pub marked_answer : {A : Type 0} (numbers : A → List ℕ) (o : Outcome A) (lent : List ℕ) → RefusalMarked o → BitMarked (answered (map_done numbers o) lent)
unfolding answered
marked_answer numbers (done a) lent h = by_room (leb (length (numbers a)) (length lent))
  where
    by_room : (t : Bool) → BitMarked (counted (map_done length (cond t (done (numbers a)) (refused FULL []))))
    by_room true = marked_done (length (numbers a))
    by_room false = full_marked
marked_answer numbers (refused n carried) lent h = h n carried refl

-- a group's refusal is the stream's, or NO ROW
pub group_marked : (s : List ℕ) (g : ℕ) → RefusalMarked (group_at s g)
group_marked s g n [] e =
    subst (λ (m : ℕ). BitMarked (counted (refused m []))) (sym (groups.group_no_row s g n e)) (marked_none NO_ROW (⊎_elim (λ e. omega arith) (λ e. omega arith)))
group_marked s g n (c ∷ cs) e = marked_stream s n (c ∷ cs) ((groups.group_refused s g n c cs).0 e)
