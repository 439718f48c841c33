-- Numbers that are handed over: the answer, by how many they are, and what is in lent memory after it.
use Rattle.std.specs.Prelude.{ℕ, List, [], ◌++◌, cond, leb, length, drop}
use Rattle.answers.specs.Answers.{Outcome, done, refused, map_done, FULL}
use Rattle.statuses.specs.Answers.{counted}
use Rattle.statuses.specs.declared.Answer.{Answer}

-- numbers are handed over where there is room for all of them, and FULL comes last
abbrev pub handed : Outcome (List ℕ) → ℕ → Outcome (List ℕ)
handed (done numbers) room = cond (leb (length numbers) room) (done numbers) (refused FULL [])
handed (refused number carried) room = refused number carried

-- numbers over the first of those lent; later ones stay
abbrev pub over : List ℕ → List ℕ → List ℕ
over numbers lent = numbers ++ drop (length numbers) lent

-- a refusal leaves all
abbrev pub left : Outcome (List ℕ) → List ℕ → List ℕ
left (done numbers) lent = over numbers lent
left (refused number carried) lent = lent

-- the answer, by how many numbers were handed over
unfoldable pub answered : Outcome (List ℕ) → List ℕ → Answer
answered o lent = counted (map_done length (handed o (length lent)))

-- what is in lent memory after it
unfoldable pub after : Outcome (List ℕ) → List ℕ → List ℕ
after o lent = left (handed o (length lent)) lent
