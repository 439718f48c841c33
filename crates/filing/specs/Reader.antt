-- Filing's answer, as a computation.
use Rattle.std.specs.Prelude.{ℕ, List}
use Rattle.answers.specs.Answers.{Outcome}
use Rattle.grammar.specs.Reader.{said, walk_into}
use Rattle.filing.specs.Filing.{totals}
use Rattle.filing.specs.declared.Totals.{Totals}

-- the totals of a stream's units, or its refusal, with so many words lent
unfoldable pub filed : List ℕ → ℕ → Outcome Totals
filed stream lent = said totals (walk_into stream lent)
