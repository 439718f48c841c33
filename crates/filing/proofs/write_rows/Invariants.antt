-- The rows that are written and those that are left make the whole.
use Rattle.filing.proofs.PassLaws.{Writing}
use Rattle.filing.proofs.write_rows.Given as goal

abbrev pub invariant-loop-i : goal.invariant-loop-i
invariant-loop-i l = Writing l.stream l.spans l.units l.initial.rows l.rows l.scope l.at l.i
