-- What the private functions promise one another; no part of document 01.
use Rattle.std.specs.Prelude.{ℕ, ◌≡◌, List}
use Rattle.answers.specs.Answers.{Outcome}
use Rattle.handover.specs.Answers.{answered, after}
use Rattle.statuses.specs.declared.Answer.{Answer}

-- what is answered and what is left in lent memory, by an outcome and what was lent
abbrev pub Handed : Answer → List ℕ → Outcome (List ℕ) → List ℕ → Type 0
Handed r kept o lent = (r ≡ answered o lent) × (kept ≡ after o lent)
