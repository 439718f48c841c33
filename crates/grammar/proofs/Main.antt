-- What is proved of recordings: how many readings they have, when they are filed, and when each refusal is given.
use Rattle.std.proofs.Common.{Ok}
use Prim.Native.Nat.{ℕ, ◌*◌, ◌≤◌, ◌<◌}
use mathlib.Core.Path.{◌≡◌}
use mathlib.Core.Logic.{◌≢◌, ◌↔◌}
use mathlib.Core.List.{List, [], ◌∷◌, ◌++◌, map}
use mathlib.Core.Bool.{true}
use lib.ListN.{length}
use Rattle.answers.specs.Answers.{Carried, at_bit, done, refused, VALUE}
use Rattle.answers.specs.Limits.{longest_stream}
use Rattle.bits.specs.Lists.{All}
use Rattle.bodies.specs.declared.SequenceHeader.{SequenceHeader}
use Rattle.macroblocks.specs.Macroblocks.{macroblock_rows}
use Rattle.macroblocks.proofs.Main.{tested_iff}
use Rattle.grammar.specs.Grammar.{StreamUnit, Alone, Picture, Reading, Reads, units, Rising, slice_rule}
use Rattle.grammar.specs.Rows.{Row, Placed, placed_units, rows, row_length, LengthIs}
use Rattle.grammar.specs.Reasons.{reason_number, reason_bit, ByNumber, BitNumber}
use Rattle.grammar.specs.Reader.{stop_at, walk, walk_into, filing, filing_into}
use Rattle.grammar.specs.Refusals.{BeginsSentence, Breaks, Refuses, RefusesInto}
use Rattle.grammar.specs.declared.Reason.{Reason}
use Rattle.grammar.proofs.Filing as filed
use Rattle.grammar.proofs.LentLaws as lent
use Rattle.grammar.proofs.ReasonLaws as reasons
use Rattle.grammar.proofs.Refusals as refusals
use Rattle.grammar.proofs.RefusalsOfUnits as stops
use Rattle.grammar.proofs.RowLaws as lengths
use Rattle.grammar.proofs.Unique as unique

-- ── readings ──

-- A stream has at most one reading.
pub same_reading : (stream : List ℕ) (r q : Reading) → Reads stream r → Reads stream q → r ≡ q
same_reading = unique.same_reading

-- The placed units of a reading are its units, in their order.
pub units_of_placed : (r : Reading) → map (λ m. m.unit) (placed_units r) ≡ units r
units_of_placed = filed.units_of_placed

-- A row's length is that of the whole body of user data and opaque extensions; of any other it is that of the body without its
-- trailing zero bytes.
pub length_is : (p : Placed) → LengthIs p (row_length p)
length_is = lengths.length_is

-- Under a header the order and the rows of a picture's slices are asked for exactly where vertical size is not over 2800.
pub order_iff : (header : SequenceHeader) (p : Picture) →
    ((slice_rule header).tested ≡ true → Rising p.slices × All (λ s. s.code < (slice_rule header).rows) p.slices)
    ↔ (header.vertical ≤ 2800 → Rising p.slices × All (λ s. s.code < macroblock_rows header) p.slices)
order_iff header p = let t = tested_iff header in ((λ h small. h (t.1 small)), λ h e. h (t.0 e))

-- ── when a stream is filed ──

-- The walk gives units exactly where the stream is within the limit and has a reading, and they are that reading's.
pub walked_iff : (stream : List ℕ) (ms : List Placed) → (walk stream ≡ Ok ms) ↔ ((length stream ≤ longest_stream) × ((r : Reading) × Reads stream r × (ms ≡ placed_units r)))
walked_iff = filed.walked_iff

-- It is filed exactly there, and its rows are that reading's.
pub filed_iff : (stream : List ℕ) (rs : List Row) → (filing stream ≡ done rs) ↔ ((length stream ≤ longest_stream) × ((r : Reading) × Reads stream r × (rs ≡ rows r)))
filed_iff = filed.filed_iff

-- Into so many words it is filed exactly where there is a reading and room, with its rows.
pub into_filed_iff : (stream : List ℕ) (lent : ℕ) (rs : List Row) →
    (filing_into stream lent ≡ done rs) ↔ ((length stream ≤ longest_stream) × ((r : Reading) × Reads stream r × (rs ≡ rows r)) × (3 * length rs ≤ lent))
into_filed_iff = lent.into_filed_iff

-- ── when it is refused ──

-- The walk stops for a reason, with the body's fault whole, and at an offset exactly where document 01's refusals say so.
pub stopped_iff : (stream : List ℕ) (why : Reason) (at : ℕ) → (walk stream ≡ stop_at why at) ↔ Refuses stream why at
stopped_iff = refusals.stopped_iff

-- The same with the words lent, so with FULL.
pub into_stopped_iff : (stream : List ℕ) (lent : ℕ) (why : Reason) (at : ℕ) → (walk_into stream lent ≡ stop_at why at) ↔ RefusesInto stream lent why at
into_stopped_iff = refusals.into_stopped_iff

-- The stream is refused with the reason's number, and carries the offset and, of MARKER and VALUE, the bit.
pub refused_iff : (stream : List ℕ) (n : ℕ) (carried : List Carried) → (filing stream ≡ refused n carried) ↔ ByNumber (Refuses stream) n carried
refused_iff = refusals.refused_iff

pub into_iff : (stream : List ℕ) (lent n : ℕ) (carried : List Carried) → (filing_into stream lent ≡ refused n carried) ↔ ByNumber (RefusesInto stream lent) n carried
into_iff = refusals.into_iff

-- No reason has the number of FILED, nor VALUE's: "The old number 8 stays for Exp-Golomb only".
pub some_number : (why : Reason) → 1 ≤ reason_number why
some_number why = (reasons.reason_apart why).0

pub no_value : (why : Reason) → reason_number why ≢ VALUE
no_value why = (reasons.reason_apart why).1

-- MARKER and VALUE carry a bit, and no other refusal does.
pub bit_iff : (why : Reason) → ((b : ℕ) × (reason_bit why ≡ at_bit b ∷ [])) ↔ BitNumber (reason_number why)
bit_iff = reasons.bit_iff

-- It is a bit of the body's layout, of which none has more than 112, or 0 for a slice.
pub bit_inside : (stream : List ℕ) (why : Reason) (at b : ℕ) → Refuses stream why at → reason_bit why ≡ at_bit b ∷ [] → b < 112
bit_inside stream why at b h = (reasons.refuses_fair h).1 b

-- ── the first unit that breaks a rule ──

-- After units that obey, a unit breaks a rule exactly where no sentence goes on with it, and for one reason alone.
pub breaks_iff : (us : List StreamUnit) (u : StreamUnit) → BeginsSentence us → Alone u → ((why : Reason) × Breaks us u why) ↔ (¬ BeginsSentence (us ++ u ∷ []))
breaks_iff = stops.breaks_iff

pub breaks_one : (us : List StreamUnit) (u : StreamUnit) (m n : Reason) → BeginsSentence us → Breaks us u m → Breaks us u n → m ≡ n
breaks_one = stops.breaks_one
