-- Document 01, "Rows": what filing answers, and what is in the lent words after it.
use Rattle.std.specs.Prelude.{ℕ, ◌*◌, ◌≤◌, ◌<◌, ◌≡◌, ◌↔◌, List, ◌++◌, length, drop, Result, Ok, Err}
use Rattle.answers.specs.Answers.{Outcome, done, refused}
use Rattle.answers.specs.Limits.{longest_stream}
use Rattle.grammar.specs.Grammar.{Reading, Reads, units}
use Rattle.grammar.specs.Rows.{Row, Placed, words, rows as rows_of}
use Rattle.grammar.specs.Reasons.{reason_number, carries}
use Rattle.grammar.specs.declared.Reason.TheVariants as reason
use Rattle.filing.specs.declared.Refusal.{Refusal}
use Rattle.filing.specs.declared.Totals.{Totals}

-- the answer gives the number of units
abbrev pub totals : List Placed → Totals
totals ms = record { units = length ms }

-- three words a unit; words past the last row stay; a refusal leaves all
abbrev pub words_after : Outcome (List Row) → List ℕ → List ℕ
words_after (done rs) lent = words rs ++ drop (3 * length rs) lent
words_after (refused number carried) lent = lent

-- the numbers of filing's answers: the totals, or the count of units where no row is written
abbrev pub filing_says : {A : Type 0} → Result A Refusal → Outcome A
filing_says (Ok value) = done value
filing_says (Err r) = refused (reason_number r.reason) (carries r.reason r.offset)

-- ── the same in the grammar's own words ──

-- the stream has a reading of so many units
abbrev pub ReadingOf : List ℕ → ℕ → Type 0
ReadingOf stream n = (r : Reading) × Reads stream r × (length (units r) ≡ n)

-- what filing says of readings, for a stream, the words lent and the words after
pub record FiledByReading (stream lent after : List ℕ) (r : Result Totals Refusal) : Type 0 where
  -- FILED n exactly where the stream is within the limit, has a reading of n units, and at least 3 n words were lent
  pub filed : (n : ℕ) → (r ≡ Ok (record { units = n })) ↔ ((length stream ≤ longest_stream) × ReadingOf stream n × (3 * n ≤ length lent))
  -- FULL exactly where it is within the limit, has a reading, and fewer were lent
  pub full : (r ≡ Err (record { reason = reason.Full; offset = 0 })) ↔ ((length stream ≤ longest_stream) × ((n : ℕ) × ReadingOf stream n × (length lent < 3 * n)))
  -- of every reading the first words are the rows, and every word past them stays
  pub rows : (n : ℕ) → r ≡ Ok (record { units = n }) → (x : Reading) → Reads stream x → after ≡ words (rows_of x) ++ drop (3 * n) lent
  -- a refusal leaves all words
  pub kept : (why : Refusal) → r ≡ Err why → after ≡ lent
  -- any two readings are equal
  pub one : (x y : Reading) → Reads stream x → Reads stream y → x ≡ y

-- The same of any answer: by how it says FILED with n units, FULL, and that it refuses.
pub record ByReading (stream lent after : List ℕ) (IsFiled : ℕ → Type 0) (IsFull IsRefused : Type 0) : Type 0 where
  pub filed : (n : ℕ) → IsFiled n ↔ ((length stream ≤ longest_stream) × ReadingOf stream n × (3 * n ≤ length lent))
  pub full : IsFull ↔ ((length stream ≤ longest_stream) × ((n : ℕ) × ReadingOf stream n × (length lent < 3 * n)))
  pub rows : (n : ℕ) → IsFiled n → (x : Reading) → Reads stream x → after ≡ words (rows_of x) ++ drop (3 * n) lent
  pub kept : IsRefused → after ≡ lent
  pub one : (x y : Reading) → Reads stream x → Reads stream y → x ≡ y
