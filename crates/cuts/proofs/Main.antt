-- Document 02, E12: what follows a sequence header's start code is filed, and what follows any other place never is.
use Rattle.std.proofs.Common.{Result, Ok}
use Prim.Native.Nat.{ℕ, ◌*◌, ◌≤◌}
use mathlib.Core.Path.{◌≡◌, refl, sym, ap, subst}
use mathlib.Core.Logic.{◌↔◌, ◌⊎◌, inl, inr}
use mathlib.Core.List.{List, [], ◌∷◌, ◌++◌, cons-ne-nil}
use lib.ListN.{length, drop, drop_of_length-le}
use Rattle.answers.specs.Limits.{longest_stream}
use Rattle.bits.specs.Lists.{All}
use Rattle.grammar.specs.Lists.{concat_map}
use Rattle.grammar.specs.Grammar.{bytes, Group, Reading, Reads, group_units, units}
use Rattle.grammar.specs.Rows.{Row, rows}
use Rattle.grammar.specs.Refusals.{HasCode, Refuses}
use Rattle.grammar.specs.declared.Reason.{Reason}
use Rattle.grammar.specs.declared.Reason.TheVariants as reason
use Rattle.grammar.proofs.Main.{same_reading, stopped_iff}
use Rattle.filing.specs.declared.Refusal.{Refusal}
use Rattle.filing.specs.Filing.{FiledByReading}
use Rattle.filing.specs.declared.Totals.{Totals}
use Rattle.cuts.specs.Cuts.{StartAt, HeaderAt, CutAt, rest, rows_from_cut, rows_left, AtOnce, FiledAs, RefusedAs}
use Rattle.cuts.specs.Reader.{FiledWith, RefusedFor}
use Rattle.cuts.proofs.RestLaws as left
use Rattle.cuts.proofs.PlaceLaws as places
use Rattle.cuts.proofs.FilingLaws as files

-- ── at a sequence header ──

-- What is left has the rest of the reading.
pub cut_reads : (stream : List ℕ) (r : Reading) (n : ℕ) → Reads stream r → (c : CutAt r n) → Reads (drop n stream) (rest r c)
cut_reads stream r n h c = left.cut_reads r n c stream h

-- Its rows are the rows from there on, each offset less by what was dropped; none was less than that.
pub cut_rows : (r : Reading) (n : ℕ) (c : CutAt r n) → rows (rest r c) ≡ rows_left r c
cut_rows = left.cut_rows

pub cut_offsets : (r : Reading) (n : ℕ) (c : CutAt r n) → All (λ row. n ≤ row.offset) (rows_from_cut r c)
cut_offsets = left.cut_offsets

-- It is filed with them where it is within the limit and as many words are lent,
pub cut_filed : (stream : List ℕ) (r : Reading) (n : ℕ) → Reads stream r → (c : CutAt r n) → length (drop n stream) ≤ longest_stream →
    (lent : ℕ) → 3 * length (rows_left r c) ≤ lent → FiledWith (drop n stream) lent (rows_left r c)
cut_filed stream r n h c short lent room =
    let e = cut_rows r n c in
    subst (FiledWith (drop n stream) lent) e (files.read_filed (drop n stream) (rest r c) (cut_reads stream r n h c) short lent (rw e room))

-- by `file`'s own promise too,
pub cut_file : (stream : List ℕ) (r : Reading) (n : ℕ) → Reads stream r → (c : CutAt r n) → length (drop n stream) ≤ longest_stream →
    (lent after : List ℕ) (a : Result Totals Refusal) → FiledByReading (drop n stream) lent after a → 3 * length (rows_left r c) ≤ length lent → FiledAs (rows_left r c) lent after a
cut_file stream r n h c short lent after a p room =
    let e = cut_rows r n c in
    subst (λ (rs : List Row). FiledAs rs lent after a) e (files.read_file (drop n stream) (rest r c) (cut_reads stream r n h c) short lent after a p (rw e room))

-- and words that held all rows hold these.
pub fewer_rows : (r : Reading) (n : ℕ) (c : CutAt r n) → length (rows_left r c) ≤ length (rows r)
fewer_rows = left.fewer_rows

-- ── elsewhere ──

-- A 00 00 01 inside a stream that is read stands at a unit's start, whatever stands before it.
pub prefix_at_start : (stream : List ℕ) (r : Reading) (n : ℕ) → Reads stream r → HasCode (drop n stream) → StartAt (units r) n
prefix_at_start = places.prefix_at_start

-- What follows any other place has no reading, before the stream's end or past it.
pub elsewhere_unread : (stream : List ℕ) (r : Reading) (n : ℕ) → Reads stream r → ¬ CutAt r n → (q : Reading) → ¬ Reads (drop n stream) q
elsewhere_unread stream r n h other = elim (places.place_of stream r n h) [
  | inl c ↦ absurd (other c)
  | inr e ↦ places.none_read (drop n stream) e
]

-- It is refused at offset 0, whatever is lent: TOO LONG over the limit, NO CODE where no 00 00 01 stands there, else OUT OF PLACE.
pub elsewhere_refused : (stream : List ℕ) (r : Reading) (n : ℕ) → Reads stream r → ¬ CutAt r n → (why : Reason) × AtOnce why × Refuses (drop n stream) why 0 × RefusedFor (drop n stream) why
elsewhere_refused stream r n h other = elim (places.place_of stream r n h) [
  | inl c ↦ absurd (other c)
  | inr e ↦
      let s = drop n stream in
      let k = places.stops s e in
      (k.0, k.1, (stopped_iff s k.0 0).0 k.2, files.stopped_refused s k.0 k.2)
]

-- Nothing follows the end, so that is NO CODE.
pub past_end : (stream : List ℕ) (n : ℕ) → length stream ≤ n → Refuses (drop n stream) reason.NoCode 0
past_end stream n h = subst (λ (l : List ℕ). Refuses l reason.NoCode 0) (sym (drop_of_length-le stream {i = n} h)) files.nothing_refused

-- By `file`'s own promise it is refused, and the words lent stay.
pub elsewhere_file : (stream : List ℕ) (r : Reading) (n : ℕ) → Reads stream r → ¬ CutAt r n → (lent after : List ℕ) (a : Result Totals Refusal) → FiledByReading (drop n stream) lent after a → RefusedAs lent after a
elsewhere_file stream r n h other = files.unread_file (drop n stream) (elsewhere_unread stream r n h other)

-- ── both ──

-- What is left has a reading exactly where a group begins, and that is where a B0 start code stands.
pub cut_iff : (stream : List ℕ) (r : Reading) (n : ℕ) → Reads stream r → CutAt r n ↔ ((q : Reading) × Reads (drop n stream) q)
cut_iff stream r n h = (
  (λ c. (rest r c, cut_reads stream r n h c)),
  λ k. elim (places.place_of stream r n h) [ inl c ↦ c | inr e ↦ absurd (places.none_read (drop n stream) e k.0 k.1) ],
)

pub header_iff : (stream : List ℕ) (r : Reading) (n : ℕ) → Reads stream r → CutAt r n ↔ HeaderAt (units r) n
header_iff stream r n h = (places.cut_headers stream r n h, places.header_cuts stream r n h)

-- Of a filed stream, in the words that held its rows: at every place and past its end one or the other.
pub every_place : (stream lent after : List ℕ) (t : Totals) → FiledByReading stream lent after (Ok t) → (r : Reading) → Reads stream r →
    (n : ℕ) (after' : List ℕ) (a : Result Totals Refusal) → FiledByReading (drop n stream) lent after' a →
    ((c : CutAt r n) × FiledAs (rows_left r c) lent after' a) ⊎ ((¬ CutAt r n) × RefusedAs lent after' a)
every_place stream lent after t p r h n after' a q = elim (places.place_of stream r n h) [
  | inl c ↦ inl (c, cut_file stream r n h c (files.within_drop stream lent after t p n) lent after' a q (files.enough stream lent after t p r h _ (fewer_rows r n c)))
  | inr e ↦
      let none = places.none_read (drop n stream) e in
      inr ((λ c. none (rest r c) (cut_reads stream r n h c)), files.unread_file (drop n stream) none lent after' a q)
]

-- No two groups begin at one place.
pub cut_once : (stream : List ℕ) (r : Reading) (n : ℕ) → Reads stream r → (c d : CutAt r n) → c.after ≡ d.after
cut_once stream r n h c d = ap (λ (q : Reading). q.groups) (same_reading (drop n stream) (rest r c) (rest r d) (cut_reads stream r n h c) (cut_reads stream r n h d))

-- The first cut drops nothing;
pub first_cut : (stream : List ℕ) (r : Reading) → Reads stream r → (c : CutAt r 0) × (rest r c ≡ r)
first_cut stream r h = (record { before = []; after = r.groups; divided = refl; some_group = h.some_group; place = refl }, refl)

-- the last leaves one group.
pub last_cut : (r : Reading) (before : List Group) (g : Group) → r.groups ≡ before ++ g ∷ [] → (c : CutAt r (length (concat_map bytes (concat_map group_units before)))) × ((rest r c).groups ≡ g ∷ [])
last_cut r before g e = (record { before = before; after = g ∷ []; divided = e; some_group = cons-ne-nil _ _; place = refl }, refl)
