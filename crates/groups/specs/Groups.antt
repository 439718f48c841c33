-- Document 01, "Rows": asked for group g of a stream, counted from 0, the answer is the stream's refusal (rows aside), or NO ROW,
-- or the header record with the display extension given or not given.
use Rattle.std.specs.Prelude.{ℕ, ◌≤◌, ◌≡◌, ◌↔◌, List, [], ◌∷◌, ◌++◌, length, Option, Some, None, Result, Ok, Err}
use Rattle.answers.specs.Answers.{Carried, Outcome, done, refused, NO_ROW}
use Rattle.answers.specs.Limits.{longest_stream}
use Rattle.bits.specs.Lists.{All}
use Rattle.bodies.specs.Bodies.{DisplayBody}
use Rattle.bodies.specs.declared.DisplayExtension.{DisplayExtension}
use Rattle.grammar.specs.Grammar.{StreamUnit, Group, Reading, Reads, IsHeader, DisplayUnit}
use Rattle.grammar.specs.Reasons.{reason_number, carries, ByNumber}
use Rattle.grammar.specs.Refusals.{Refuses}
use Rattle.groups.specs.declared.Group as declared
use Rattle.groups.specs.declared.GroupError.{GroupError}
use Rattle.groups.specs.declared.GroupError.TheVariants as error

-- the header record, with the display extension given or not given
abbrev pub GroupRecord : Type 0
GroupRecord = declared.Group

-- the numbers of the answers
abbrev pub group_says : Result GroupRecord GroupError → Outcome GroupRecord
group_says (Ok group) = done group
group_says (Err error.NoRow) = refused NO_ROW []
group_says (Err (error.Refused r)) = refused (reason_number r.reason) (carries r.reason r.offset)

-- ── group g of a reading ──

-- one of these units is a display extension with this record
pub record Shows (extras : List StreamUnit) (d : DisplayExtension) : Type 0 where
  pub before : List StreamUnit
  pub unit : StreamUnit
  pub after : List StreamUnit
  pub is : extras ≡ before ++ unit ∷ after
  pub display : DisplayUnit unit
  pub body : DisplayBody unit.body d

-- given where a unit of the head is one, not given where none is
abbrev pub DisplayIs : List StreamUnit → Option DisplayExtension → Type 0
DisplayIs extras (Some d) = Shows extras d
DisplayIs extras None = All (λ u. ¬ DisplayUnit u) extras

-- the header record and the display extension of a group
pub record GroupIs (group : Group) (x : GroupRecord) : Type 0 where
  pub header : IsHeader group.head.body x.header
  pub display : DisplayIs group.extras x.display

-- group g, counted from 0
pub record NthGroup (g : ℕ) (groups : List Group) (group : Group) : Type 0 where
  pub before : List Group
  pub after : List Group
  pub is : groups ≡ before ++ group ∷ after
  pub count : length before ≡ g

-- what is answered for group g of a stream with this reading
pub record GroupOfReading (r : Reading) (g : ℕ) (o : Outcome GroupRecord) : Type 0 where
  -- a record exactly where the reading has group g and the record is its own
  pub given : (x : GroupRecord) → (o ≡ done x) ↔ ((group : Group) × NthGroup g r.groups group × GroupIs group x)
  -- NO ROW exactly where g is at least the number of groups
  pub no_row : (o ≡ refused NO_ROW []) ↔ (length r.groups ≤ g)

-- what is answered for group g of any stream
pub record GroupByReading (stream : List ℕ) (g : ℕ) (o : Outcome GroupRecord) : Type 0 where
  -- a record exactly where the stream is within the limit and has a reading whose group g has it
  pub given : (x : GroupRecord) →
      (o ≡ done x) ↔ ((length stream ≤ longest_stream) × ((r : Reading) × Reads stream r × ((group : Group) × NthGroup g r.groups group × GroupIs group x)))
  -- NO ROW exactly where it is within the limit and has a reading with no group g
  pub no_row : (o ≡ refused NO_ROW []) ↔ ((length stream ≤ longest_stream) × ((r : Reading) × Reads stream r × (length r.groups ≤ g)))
  -- any other refusal, which carries something, exactly where the stream is refused, rows aside, with this number and what it carries
  pub refusal : (n : ℕ) (first : Carried) (more : List Carried) → (o ≡ refused n (first ∷ more)) ↔ ByNumber (Refuses stream) n (first ∷ more)
