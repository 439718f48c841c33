-- What the private functions promise one another; no part of document 01.
use Rattle.std.specs.Prelude.{ℕ, zero, suc, ◌+◌, ◌*◌, ◌≤◌, ◌<◌, ◌≡◌, List, cond, ltb, length, get_or, Result, Ok, Err}
use Rattle.answers.specs.Answers.{Outcome, done, refused}
use Rattle.answers.specs.Limits.{longest_stream}
use Rattle.answers.specs.Results.{map_ok}
use Rattle.startcode.specs.Prefix.{next_prefix}
use Rattle.startcode.specs.declared.Kind.{Kind}
use Rattle.startcode.specs.declared.Kind.TheVariants as kind
use Rattle.bodies.specs.declared.Scope.{Scope}
use Rattle.bodies.specs.declared.Scope.TheVariants as scope
use Rattle.grammar.specs.Rows.{Placed}
use Rattle.grammar.specs.Reader.{Stopped, stop_at, walk_of_any, filing_into}
use Rattle.filing.specs.Filing.{filing_says, words_after, FiledByReading}
use Rattle.filing.specs.Reader.{filed}
use Rattle.filing.specs.declared.Refusal.{Refusal}
use Rattle.filing.specs.declared.Totals.{Totals}

-- the first pass: how many units, or why it stops and where
abbrev pub checked_gives : Result ℕ Refusal → Result ℕ Stopped
checked_gives (Ok units) = Ok units
checked_gives (Err r) = stop_at r.reason r.offset

-- the offset of each unit of a good stream, by the number of units before it
abbrev pub offset_of : List ℕ → ℕ → ℕ
offset_of stream zero = 0
offset_of stream (suc i) = next_prefix stream (offset_of stream i + 3)

-- a span in 16 bits: 0 where it does not fit
abbrev pub short_span : ℕ → ℕ
short_span n = cond (ltb n 65536) n 0

-- a span that is not 0 leads from an offset to the next
abbrev pub Spans : ℕ → ℕ → ℕ → Type 0
Spans span at next = (span ≡ 0 → ⊥) → at + span ≡ next

-- the spans of the first units, as far as there are words for them
pub record Kept (stream spans : List ℕ) (units : ℕ) : Type 0 where
  pub span : (i : ℕ) → i < units → Spans (get_or spans i 0) (offset_of stream i) (offset_of stream (suc i))

-- what the first pass keeps of a stream that it finds good
abbrev pub KeptBy : List ℕ → List ℕ → Result ℕ Refusal → Type 0
KeptBy stream spans (Ok units) = Kept stream spans units
KeptBy stream spans (Err r) = Unit {0}

-- what the first pass answers, and the spans that it keeps
pub record Passed (stream spans : List ℕ) (r : Result ℕ Refusal) : Type 0 where
  pub answer : checked_gives r ≡ map_ok length (walk_of_any stream)
  pub kept : KeptBy stream spans r

-- the scope of the extensions after a unit of this kind
abbrev pub scope_after : Scope → Outcome Kind → Scope
scope_after p (done kind.Slice) = p
scope_after p (done kind.SequenceHeader) = scope.Head
scope_after p (done kind.SequenceEnd) = p
scope_after p (done kind.UserData) = p
scope_after p (done kind.IPicture) = scope.Picture
scope_after p (done kind.Extension) = p
scope_after p (done kind.PBPicture) = scope.Picture
scope_after p (done kind.EditCode) = p
scope_after p (refused number carried) = p

-- the stream is good, of so many units, and within the limit, the words suffice, and the spans kept are its units'
pub record Writable (stream spans : List ℕ) (units : ℕ) (lent : List ℕ) : Type 0 where
  pub all : List Placed
  pub walked : walk_of_any stream ≡ Ok all
  pub short : length stream ≤ longest_stream
  pub count : length all ≡ units
  pub room : 3 * units ≤ length lent
  pub kept : Kept stream spans units

-- all that filing promises
abbrev pub Filed : List ℕ → List ℕ → List ℕ → Result Totals Refusal → Type 0
Filed stream lent after r =
    (filing_says r ≡ filed stream (length lent)) × ((after ≡ words_after (filing_into stream (length lent)) lent) × FiledByReading stream lent after r)
