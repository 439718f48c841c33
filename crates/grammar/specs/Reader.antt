-- Filing as a computation: the stream is cut at each 00 00 01, and a state goes over the units.
-- Document 01's order: TOO LONG, NO CODE, then unit by unit 2, 3, 4, 5, 6, 10, fields in bit order, 9; then UNENDED, then FULL.
use Rattle.std.specs.Prelude.{ℕ, ◌+◌, ◌*◌, List, [], ◌∷◌, Bool, true, false, cond, ◌&&◌, not, eqb, leb, ltb, length, drop, Result, Ok, Err}
use Rattle.answers.specs.Answers.{Outcome, done, refused}
use Rattle.answers.specs.Limits.{longest_stream}
use Rattle.answers.specs.Results.{map_ok}
use Rattle.startcode.specs.Prefix.{begins}
use Rattle.startcode.specs.Kinds.{kind_of}
use Rattle.startcode.specs.declared.Kind.{Kind}
use Rattle.startcode.specs.declared.Kind.TheVariants as kind
use Rattle.bodies.specs.Extensions.{numbered}
use Rattle.layout.specs.Reader.{all_zero}
use Rattle.bodies.specs.Reader.{header_result, extension_result, display_short, display_of}
use Rattle.layout.specs.declared.Fault.{Fault}
use Rattle.layout.specs.declared.Fault.TheVariants as fault
use Rattle.bodies.specs.declared.Scope.{Scope}
use Rattle.bodies.specs.declared.Scope.TheVariants as scope
use Rattle.grammar.specs.Grammar.{StreamUnit, bytes, slice_rule}
use Rattle.grammar.specs.Rows.{Row, Placed, placed, rows_from}
use Rattle.grammar.specs.Reasons.{reason_number, carries}
use Rattle.grammar.specs.declared.SliceRule.{SliceRule}
use Rattle.grammar.specs.declared.State.{State}
use Rattle.grammar.specs.declared.State.TheVariants as state
use Rattle.grammar.specs.declared.Reason.{Reason}
use Rattle.grammar.specs.declared.Reason.TheVariants as reason

-- ── cutting ──

-- the bytes before the first 00 00 01, and what follows each 00 00 01 up to the next
pub record Cut : Type 0 where
  pub front : List ℕ
  pub chunks : List (List ℕ)

abbrev pub cut_here : Cut → Cut
cut_here c = record { front = []; chunks = drop 2 c.front ∷ c.chunks }

abbrev pub no_cut : ℕ → Cut → Cut
no_cut byte c = record { front = byte ∷ c.front; chunks = c.chunks }

unfoldable pub cut : List ℕ → Cut
cut [] = record { front = []; chunks = [] }
cut (byte ∷ bytes) = cond (begins (byte ∷ bytes)) (cut_here (cut bytes)) (no_cut byte (cut bytes))

-- ── one unit ──

-- what follows a unit: the next state, or why there is none
abbrev pub Step : Type 0
Step = Result State Reason

-- the first reason whose test holds, or the step
abbrev pub guard : List (Bool × Reason) → Step → Step
guard [] step = step
guard (c ∷ cs) step = cond c.0 (Err c.1) (guard cs step)

-- what reading a body says
abbrev pub by : {A : Type 0} → Result A Fault → (A → State) → Step
by (Ok a) next = Ok (next a)
by (Err fault) next = Err (reason.Body fault)

abbrev pub is_nil : {A : Type 0} → List A → Bool
is_nil [] = true
is_nil (x ∷ xs) = false

abbrev pub header_step : List ℕ → Step
header_step body = by (header_result body) (λ header. state.Head (slice_rule header) false)

-- SHORT, then TWICE, then the fields
abbrev pub display_step : SliceRule → Bool → List ℕ → Step
display_step rule display body =
    guard ((display_short body, reason.Body fault.Short) ∷ (display, reason.Twice) ∷ [])
    (by (display_of body) (λ x. state.Head rule true))

abbrev pub head_extension : SliceRule → Bool → List ℕ → Step
head_extension rule display body =
    cond (numbered 2 body) (display_step rule display body) (by (extension_result scope.Head body) (λ x. state.Head rule display))

abbrev pub picture_extension : SliceRule → List ℕ → Step
picture_extension rule body = by (extension_result scope.Picture body) (λ x. state.Picture rule)

abbrev pub picture_step : SliceRule → List ℕ → Step
picture_step rule body = guard ((all_zero body, reason.Body fault.Short) ∷ []) (Ok (state.Picture rule))

-- the order before the row
abbrev pub slice_step : SliceRule → ℕ → StreamUnit → Step
slice_step rule least u =
    guard ((all_zero u.body, reason.Body fault.Short) ∷ (rule.tested && ltb u.code least, reason.SliceOrder) ∷ (rule.tested && leb rule.rows u.code, reason.SliceRow) ∷ [])
    (Ok (state.Slices rule (u.code + 1)))

abbrev pub ending_step : List ℕ → State → Step
ending_step body next = guard ((not (is_nil body), reason.Body fault.Stuffing) ∷ []) (Ok next)

-- which kinds of unit may stand here, and what follows each
abbrev pub table : State → StreamUnit → List (Kind × Step)
table state.Start u = (kind.SequenceHeader, header_step u.body) ∷ []
table (state.Head rule display) u =
    (kind.UserData, Ok (state.Head rule display))
    ∷ (kind.Extension, head_extension rule display u.body)
    ∷ (kind.IPicture, picture_step rule u.body)  -- the first picture is B3
    ∷ []
table (state.Picture rule) u =
    (kind.Slice, slice_step rule 0 u)
    ∷ (kind.UserData, Ok (state.Picture rule))
    ∷ (kind.Extension, picture_extension rule u.body)
    ∷ []
table (state.Slices rule least) u =
    (kind.Slice, slice_step rule least u)
    ∷ (kind.IPicture, picture_step rule u.body)
    ∷ (kind.PBPicture, picture_step rule u.body)
    ∷ (kind.SequenceHeader, header_step u.body)
    ∷ (kind.SequenceEnd, ending_step u.body state.Ended)
    ∷ (kind.EditCode, ending_step u.body state.Closed)
    ∷ []
table state.Ended u = (kind.EditCode, ending_step u.body state.Closed) ∷ []
table state.Closed u = []

-- kinds are told apart by a number
abbrev pub kind_index : Kind → ℕ
kind_index kind.Slice = 0
kind_index kind.SequenceHeader = 1
kind_index kind.SequenceEnd = 2
kind_index kind.UserData = 3
kind_index kind.IPicture = 4
kind_index kind.Extension = 5
kind_index kind.PBPicture = 6
kind_index kind.EditCode = 7

abbrev pub same_kind : Kind → Kind → Bool
same_kind j k = eqb (kind_index j) (kind_index k)

-- the step of this kind, or OUT OF PLACE
abbrev pub choose : Kind → List (Kind × Step) → Step
choose k [] = Err reason.OutOfPlace
choose k (c ∷ cs) = cond (same_kind k c.0) c.1 (choose k cs)

-- a code with no kind is UNKNOWN
abbrev pub by_kind : Outcome Kind → (Kind → Step) → Step
by_kind (done k) next = next k
by_kind (refused number carried) next = Err reason.Unknown

unfoldable pub step : State → StreamUnit → Step
step q u = by_kind (kind_of u.code) (λ k. choose k (table q u))

-- the sentence is complete
abbrev pub final : State → Bool
final state.Start = false
final (state.Head rule display) = false
final (state.Picture rule) = false
final (state.Slices rule least) = false
final state.Ended = true
final state.Closed = true

abbrev pub is_kind : Kind → Outcome Kind → Bool
is_kind j (done k) = same_kind k j
is_kind j (refused number carried) = false

-- a unit of this kind, read in this state, stands between a sequence header and the first picture, or elsewhere
abbrev pub place_of : State → Outcome Kind → Scope
place_of state.Start k = scope.Picture
place_of (state.Head rule display) k = cond (is_kind kind.IPicture k) scope.Picture scope.Head
place_of (state.Picture rule) k = scope.Picture
place_of (state.Slices rule least) k = scope.Picture
place_of state.Ended k = scope.Picture
place_of state.Closed k = scope.Picture

abbrev pub scope_in : State → StreamUnit → Scope
scope_in q u = place_of q (kind_of u.code)

-- ── the walk: the units, each with its scope, or why it stops and where ──

pub record Stopped : Type 0 where
  pub reason : Reason
  pub offset : ℕ

abbrev pub Walk : Type 0
Walk = Result (List Placed) Stopped

abbrev pub stop_at : {A : Type 0} → Reason → ℕ → Result A Stopped
stop_at why at = Err (record { reason = why; offset = at })

-- go on in the next state, or stop at the unit's offset
abbrev pub continue : Step → ℕ → (State → Walk) → Walk
continue (Ok q) at rest = rest q
continue (Err why) at rest = stop_at why at

abbrev pub add_unit : Placed → Walk → Walk
add_unit m rest = map_ok (λ ms. m ∷ ms) rest

-- the chunks from offset `at` on, in state q; an empty chunk is CUT at the stream's end and OVERLAP before another
unfoldable pub walk_from : List (List ℕ) → State → ℕ → Walk
walk_from [] q at = cond (final q) (Ok []) (stop_at reason.Unended at)
walk_from ([] ∷ chunks) q at = stop_at (cond (is_nil chunks) reason.Cut reason.Overlap) at
walk_from ((code ∷ body) ∷ chunks) q at =
    let u : StreamUnit = record { code = code; body = body } in
    continue (step q u) at (λ q'. add_unit (placed (scope_in q u) u) (walk_from chunks q' (at + length (bytes u))))

-- a stream of any length
unfoldable pub walk_of_any : List ℕ → Walk
walk_of_any stream = cond (begins stream) (walk_from (cut stream).chunks state.Start 0) (stop_at reason.NoCode 0)

unfoldable pub walk : List ℕ → Walk
walk stream = cond (ltb longest_stream (length stream)) (stop_at reason.TooLong 0) (walk_of_any stream)

-- ── the answer: rows, or a refusal with its number and what it carries ──

-- what is seen of the units, in the papers' terms
abbrev pub said : {A : Type 0} → (List Placed → A) → Walk → Outcome A
said view (Ok ms) = done (view ms)
said view (Err s) = refused (reason_number s.reason) (carries s.reason s.offset)

-- the rows of a stream, whatever is lent for them
unfoldable pub filing : List ℕ → Outcome (List Row)
filing stream = said (rows_from 0) (walk stream)

-- the same with so many words lent, three a unit; FULL comes last
abbrev pub within : ℕ → Walk → Walk
within lent (Ok ms) = cond (ltb lent (3 * length ms)) (stop_at reason.Full 0) (Ok ms)
within lent (Err s) = Err s

unfoldable pub walk_into : List ℕ → ℕ → Walk
walk_into stream lent = within lent (walk stream)

unfoldable pub filing_into : List ℕ → ℕ → Outcome (List Row)
filing_into stream lent = said (rows_from 0) (walk_into stream lent)
