-- What is proved of answers beyond the contracts of the functions: demand 3 of filing's; and that the bit is there exactly for MARKER and
-- VALUE, and the mark that stands for none is no bit.
use Prim.Native.Nat.{ℕ}
use mathlib.Core.Path.{◌≡◌, refl}
use mathlib.Core.List.{List}
use native.Mathlib.Omega.{arith}
use lib.ListN.{length}
use Rattle.std.specs.Prelude.{Some, None}
use Rattle.answers.specs.Answers.{Outcome, done, refused, map_done, OneToOne}
use Rattle.grammar.specs.Reader.{walk, walk_into, said, filing_into}
use Rattle.grammar.specs.Refusals.{RefusesInto, refuses, full}
use Rattle.grammar.specs.declared.Reason.{Reason}
use Rattle.grammar.proofs.ReasonLaws.{BitSmall, refuses_fair, full_fair}
use Rattle.grammar.proofs.Refusals.{stopped_iff, into_stopped_iff}
use Rattle.filing.specs.Filing.{totals, words_after}
use Rattle.filing.specs.Reader.{filed}
use Rattle.statuses.specs.Answers.{counted, filed_answer, AnsweredByReading, BitMarked, carried_bit}
use Rattle.statuses.proofs.MarkLaws.{marked_walk}
use Rattle.statuses.proofs.ReadingLaws as readings

-- Demand 3 of what `file` answers C, in the terms of its contract: status 0 with n units exactly where there is a reading of n units and
-- room, and then the first words are its rows; FULL exactly where there is a reading and no room; any status but 0 leaves all words.
pub file_by_reading : (stream lent : List ℕ) → AnsweredByReading stream lent (words_after (filing_into stream (length lent)) lent) (filed_answer (filed stream (length lent)))
file_by_reading = readings.file_by_reading

-- ── the bit ──

-- what `fault_bit` and `reason_bit` answer says one thing each
pub carried_one_to_one : OneToOne carried_bit
carried_one_to_one None None e = refl
carried_one_to_one None (Some b) e = let z : ◌≡◌ {A = ℕ} 0 1 = cc in absurd (omega arith)
carried_one_to_one (Some a) None e = let z : ◌≡◌ {A = ℕ} 0 1 = cc in absurd (omega arith)
carried_one_to_one (Some a) (Some b) e = cc

-- of what `check` answers
pub check_marked : (stream : List ℕ) → BitMarked (counted (said length (walk stream)))
check_marked stream = as_counted (said length (walk stream)) (marked_walk length (λ n. n) (walk stream) (λ x e. (refuses_fair ((stopped_iff stream x.reason x.offset).0 e)).1))
  where
    as_counted : (o : Outcome ℕ) → BitMarked (counted (map_done (λ n. n) o)) → BitMarked (counted o)
    as_counted (done n) h = h
    as_counted (refused n carried) h = h

-- of what `file` answers, with so many words lent
pub file_marked : (stream : List ℕ) (lent : ℕ) → BitMarked (filed_answer (filed stream lent))
unfolding filed
file_marked stream lent = marked_walk totals (λ t. t.units) (walk_into stream lent) (λ x e. small x.reason x.offset ((into_stopped_iff stream lent x.reason x.offset).0 e))
  where
    small : (why : Reason) (at : ℕ) → RefusesInto stream lent why at → BitSmall why
    small why at (refuses h) = (refuses_fair h).1
    small why at (full l r k b e p) = full_fair why e
