-- What is proved of filing beyond the contracts of the functions.
use Rattle.std.proofs.Common.{Result, Ok, Err}
use Prim.Native.Nat.{ℕ, ◌*◌, ◌≤◌}
use mathlib.Core.Path.{◌≡◌}
use mathlib.Core.List.{List}
use mathlib.Core.Logic.{◌↔◌}
use lib.ListN.{length}
use Rattle.answers.specs.Answers.{Carried, done, refused, OneToOne}
use Rattle.answers.specs.Limits.{longest_stream}
use Rattle.grammar.specs.Reasons.{reason_number, carries, ByNumber}
use Rattle.grammar.specs.declared.Reason.TheVariants as reason
use Rattle.grammar.specs.Refusals.{Refuses, RefusesInto}
use Rattle.grammar.specs.Reader.{walk, said}
use Rattle.filing.specs.Filing.{filing_says, ReadingOf, FiledByReading, ByReading}
use Rattle.filing.specs.Reader.{filed}
use Rattle.filing.specs.declared.Totals.{Totals}
use Rattle.filing.specs.declared.Refusal.{Refusal}
use Rattle.filing.proofs.Demand as demand

-- No two answers say the same.
pub filing_one_to_one : {A : Type 0} → OneToOne (filing_says {A = A})
filing_one_to_one = demand.filing_one_to_one

-- An answer of `file` is a refusal exactly where the papers refuse the stream with its number, at its offset and, of MARKER and VALUE, its bit.
pub refused_by : (stream : List ℕ) (lent : ℕ) (r : Result Totals Refusal) → filing_says r ≡ filed stream lent →
    (why : Refusal) → (r ≡ Err why) ↔ ByNumber (RefusesInto stream lent) (reason_number why.reason) (carries why.reason why.offset)
refused_by = demand.refused_by

-- Its totals are done exactly where there is a reading of so many units and room for its rows.
pub totals_iff : (stream : List ℕ) (lent n : ℕ) →
    (filed stream lent ≡ done (record { units = n })) ↔ ((length stream ≤ longest_stream) × ReadingOf stream n × (3 * n ≤ lent))
totals_iff = demand.totals_iff

-- What `file` says of readings is what any answer says of them that has FILED, FULL and a refusal as its cases.
pub filed_by_iff : (stream lent after : List ℕ) (r : Result Totals Refusal) →
    FiledByReading stream lent after r
    ↔ ByReading stream lent after (λ n. r ≡ Ok (record { units = n })) (r ≡ Err (record { reason = reason.Full; offset = 0 })) ((why : Refusal) × (r ≡ Err why))
filed_by_iff = demand.filed_by_iff

-- `check` answers n units exactly where the stream is within the limit and has a reading of n units, and refuses it exactly where the
-- papers do, rows aside.
pub counted_iff : (stream : List ℕ) (n : ℕ) → (said length (walk stream) ≡ done n) ↔ ((length stream ≤ longest_stream) × ReadingOf stream n)
counted_iff = demand.counted_iff

pub uncounted_iff : (stream : List ℕ) (n : ℕ) (carried : List Carried) → (said length (walk stream) ≡ refused n carried) ↔ ByNumber (Refuses stream) n carried
uncounted_iff = demand.uncounted_iff
