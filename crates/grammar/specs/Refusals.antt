-- Document 01, "Refusal numbers": when a stream is refused, for which reason and at which offset, in the words of the grammar and
-- the layouts. The units before obey, this unit is the first that breaks a rule, and this rule is the first that it breaks.
use Rattle.std.specs.Prelude.{ℕ, ◌*◌, ◌≤◌, ◌<◌, ◌≡◌, ◌≢◌, ◌⊎◌, List, [], ◌∷◌, ◌++◌, map, true, length}
use Rattle.answers.specs.Answers.{Outcome, refused, UNKNOWN}
use Rattle.answers.specs.Limits.{longest_stream}
use Rattle.bits.specs.Lists.{All}
use Rattle.startcode.specs.Kinds.{kind_of}
use Rattle.startcode.specs.declared.Kind.{Kind}
use Rattle.startcode.specs.declared.Kind.TheVariants as kind
use Rattle.bodies.specs.Extensions.{HasNumber}
use Rattle.layout.specs.Breaks.{Breaks as BreaksLayout}
use Rattle.bodies.specs.Breaks.{ShortDisplay, BreaksDisplay, BreaksExtension}
use Rattle.layout.specs.declared.Fault.{Fault}
use Rattle.layout.specs.declared.Fault.TheVariants as fault
use Rattle.layout.specs.declared.Layout.TheVariants.{Header}
use Rattle.bodies.specs.declared.Scope.TheVariants as scope
use Rattle.bodies.specs.declared.SequenceHeader.{SequenceHeader}
use Rattle.macroblocks.specs.Macroblocks.{macroblock_rows, slices_tested}
use Rattle.grammar.specs.Lists.{AtMostOne, concat_map}
use Rattle.grammar.specs.Grammar.{StreamUnit, bytes, IsKind, Alone, Reading, units, IsHeader, Nonzero, IsPictureHead, DisplayUnit, Reads}
use Rattle.grammar.specs.declared.Reason.{Reason}
use Rattle.grammar.specs.declared.Reason.TheVariants as reason

-- ── sentences and their shapes ──

-- "A stream is a sentence exactly when it has a reading": these are a sentence's units
abbrev pub IsSentence : List StreamUnit → Type 0
IsSentence us = (r : Reading) × Reads (concat_map bytes us) r × (units r ≡ us)

-- the units obey: some sentence begins with them
abbrev pub BeginsSentence : List StreamUnit → Type 0
BeginsSentence us = (rest : List StreamUnit) × IsSentence (us ++ rest)

-- the kinds of units: no bodies, no slice numbers (a code with no kind is UNKNOWN, and no sentence has one)
abbrev pub kinds_of : List StreamUnit → List (Outcome Kind)
kinds_of us = map (λ u. kind_of u.code) us

-- the shape of a sentence: the kinds of its units
abbrev pub Shape : List (Outcome Kind) → Type 0
Shape ks = (us : List StreamUnit) × IsSentence us × (kinds_of us ≡ ks)

abbrev pub BeginsShape : List (Outcome Kind) → Type 0
BeginsShape ks = (rest : List (Outcome Kind)) × Shape (ks ++ rest)

-- the grammar has such a unit after the units us: the kinds up to it begin a shape
abbrev pub InPlace : List StreamUnit → StreamUnit → Type 0
InPlace us u = BeginsShape (kinds_of (us ++ u ∷ []))

-- ── where a unit stands, by the units before it ──

-- u is the last such unit, and `after` stands after it
pub record Last (Is : StreamUnit → Type 0) (us : List StreamUnit) (u : StreamUnit) (after : List StreamUnit) : Type 0 where
  pub before : List StreamUnit
  pub all : us ≡ before ++ u ∷ after
  pub is : Is u
  pub last : All (λ v. ¬ Is v) after

-- a sequence header, or a picture header
abbrev pub IsHead : StreamUnit → Type 0
IsHead u = IsKind kind.SequenceHeader u ⊎ IsPictureHead u

-- "A group's head is what stands before its first picture": there is no picture after the last sequence header, and `extras`
-- stand after it
abbrev pub InHead : List StreamUnit → List StreamUnit → Type 0
InHead us extras = (u : StreamUnit) × Last IsHead us u extras × IsKind kind.SequenceHeader u

-- after a picture header
abbrev pub AfterPicture : List StreamUnit → Type 0
AfterPicture us = (u : StreamUnit) × (extras : List StreamUnit) × Last IsHead us u extras × IsPictureHead u

-- the record of the group's sequence header, the last one
pub record InGroup (us : List StreamUnit) (header : SequenceHeader) : Type 0 where
  pub head : StreamUnit
  pub after : List StreamUnit
  pub last : Last (IsKind kind.SequenceHeader) us head after
  pub body : IsHeader head.body header

-- ── the rules of a body, by its unit's kind ──

-- what a body is refused for, by its layout
abbrev pub OfBody : (Fault → Type 0) → Reason → Type 0
OfBody Broken why = (f : Fault) × Broken f × (why ≡ reason.Body f)

-- "Picture and slice bodies hold at least one nonzero byte, otherwise SHORT."
abbrev pub NoNonzero : List ℕ → Reason → Type 0
NoNonzero body why = (¬ Nonzero body) × (why ≡ reason.Body fault.Short)

-- "Their bodies are empty, otherwise STUFFING."
abbrev pub NotEmpty : List ℕ → Reason → Type 0
NotEmpty body why = (body ≢ []) × (why ≡ reason.Body fault.Stuffing)

-- "Inside a picture each slice's code byte is greater than the one before": it is not, where the last unit is a slice
abbrev pub NotGreater : List StreamUnit → StreamUnit → Type 0
NotGreater us u = (before : List StreamUnit) × (s : StreamUnit) × (us ≡ before ++ s ∷ []) × IsKind kind.Slice s × (u.code ≤ s.code)

-- ".. and less than the group's macroblock rows, otherwise VALUE": "order tested first"
pub data OutOfOrder (us : List StreamUnit) (u : StreamUnit) (rows : ℕ) (why : Reason) : Type 0 where
  order : NotGreater us u → why ≡ reason.SliceOrder → OutOfOrder us u rows why
  row : ¬ NotGreater us u → rows ≤ u.code → why ≡ reason.SliceRow → OutOfOrder us u rows why

-- "Where vertical size is over 2800 neither is tested."
pub record BadSlice (us : List StreamUnit) (u : StreamUnit) (why : Reason) : Type 0 where
  pub header : SequenceHeader
  pub group : InGroup us header
  pub nonzero : Nonzero u.body
  pub tested : slices_tested header ≡ true
  pub breaks : OutOfOrder us u (macroblock_rows header) why

-- an extension of a group's head, after `extras`: of a display extension SHORT, then TWICE, "a group's head has at most one display
-- extension", then its fields and its end
pub data BadHeadExtension (extras : List StreamUnit) (u : StreamUnit) (why : Reason) : Type 0 where
  short : HasNumber u.body 2 → ShortDisplay u.body → why ≡ reason.Body fault.Short → BadHeadExtension extras u why
  twice : HasNumber u.body 2 → ¬ ShortDisplay u.body → ¬ AtMostOne DisplayUnit (extras ++ u ∷ []) → why ≡ reason.Twice → BadHeadExtension extras u why
  fields : HasNumber u.body 2 → ¬ ShortDisplay u.body → AtMostOne DisplayUnit (extras ++ u ∷ []) → OfBody (BreaksDisplay u.body) why → BadHeadExtension extras u why
  other : ¬ HasNumber u.body 2 → OfBody (BreaksExtension scope.Head u.body) why → BadHeadExtension extras u why

-- after the units us, a unit of this kind that is in place breaks a rule of its body, and this is the first
abbrev pub BreaksBody : Kind → List StreamUnit → StreamUnit → Reason → Type 0
BreaksBody kind.Slice us u why = NoNonzero u.body why ⊎ BadSlice us u why
BreaksBody kind.SequenceHeader us u why = OfBody (BreaksLayout Header u.body) why
BreaksBody kind.SequenceEnd us u why = NotEmpty u.body why
BreaksBody kind.UserData us u why = ⊥
BreaksBody kind.IPicture us u why = NoNonzero u.body why
BreaksBody kind.Extension us u why =
    ((extras : List StreamUnit) × InHead us extras × BadHeadExtension extras u why)
    ⊎ (AfterPicture us × OfBody (BreaksExtension scope.Picture u.body) why)
BreaksBody kind.PBPicture us u why = NoNonzero u.body why
BreaksBody kind.EditCode us u why = NotEmpty u.body why

-- ── the first rule that a unit breaks ──

-- "inside a unit .. 4, 5, 6, 10, then fields in bit order (7 and 8, which E1 numbers by field), then 9"
pub data Breaks (us : List StreamUnit) (u : StreamUnit) (why : Reason) : Type 0 where
  unknown : kind_of u.code ≡ refused UNKNOWN [] → why ≡ reason.Unknown → Breaks us u why
  out_of_place : (k : Kind) → IsKind k u → ¬ InPlace us u → why ≡ reason.OutOfPlace → Breaks us u why
  in_place : (k : Kind) → IsKind k u → InPlace us u → BreaksBody k us u why → Breaks us u why

-- ── the first unit that breaks a rule ──

-- the first three bytes are 00 00 01
abbrev pub HasCode : List ℕ → Type 0
HasCode stream = (rest : List ℕ) × (stream ≡ 0 ∷ 0 ∷ 1 ∷ rest)

-- after the units us these bytes are left, and the reading stops: the stream stops and the sentence isn't complete; a prefix has
-- no code byte after it; code byte 00 is followed by 00 01; or a unit, which runs to the next 00 00 01 or to the stream's end,
-- breaks a rule
pub data Stops (us : List StreamUnit) (left : List ℕ) (why : Reason) : Type 0 where
  unended : left ≡ [] → ¬ IsSentence us → why ≡ reason.Unended → Stops us left why
  cut : left ≡ 0 ∷ 0 ∷ 1 ∷ [] → why ≡ reason.Cut → Stops us left why
  overlap : (rest : List ℕ) → left ≡ 0 ∷ 0 ∷ 1 ∷ rest → HasCode rest → why ≡ reason.Overlap → Stops us left why
  breaks : (u : StreamUnit) (rest : List ℕ) → left ≡ bytes u ++ rest → Alone u → (rest ≡ []) ⊎ HasCode rest → Breaks us u why → Stops us left why

-- "unit by unit from the left": the units us obey, and after them the stream stops. The offset is the number of their bytes:
-- that of the next unit's start code, or the stream's length.
pub record StopsAt (stream : List ℕ) (why : Reason) (at : ℕ) : Type 0 where
  pub us : List StreamUnit
  pub left : List ℕ
  pub stream_is : concat_map bytes us ++ left ≡ stream
  pub obey : BeginsSentence us
  pub stops : Stops us left why
  pub offset : at ≡ length (concat_map bytes us)

-- "Order: TOO LONG, NO CODE, then unit by unit from the left"; the offset is 0 for the first two
pub data Refuses (stream : List ℕ) (why : Reason) (at : ℕ) : Type 0 where
  too_long : longest_stream < length stream → why ≡ reason.TooLong → at ≡ 0 → Refuses stream why at
  no_code : length stream ≤ longest_stream → ¬ HasCode stream → why ≡ reason.NoCode → at ≡ 0 → Refuses stream why at
  in_unit : length stream ≤ longest_stream → HasCode stream → StopsAt stream why at → Refuses stream why at

-- the same with so many words lent: "FULL comes last: only for a stream that is otherwise good", where they are fewer than three a
-- unit; its offset is 0
pub data RefusesInto (stream : List ℕ) (lent : ℕ) (why : Reason) (at : ℕ) : Type 0 where
  refuses : Refuses stream why at → RefusesInto stream lent why at
  full : length stream ≤ longest_stream → (r : Reading) → Reads stream r → lent < 3 * length (units r) → why ≡ reason.Full → at ≡ 0 → RefusesInto stream lent why at
