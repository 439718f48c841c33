-- What filing answers of what is left.
use Rattle.std.proofs.Common.{Result, Ok, Err}
use Prim.Native.Nat.{ℕ, ◌*◌, ◌≤◌}
use mathlib.Core.Path.{◌≡◌, refl, sym, ◌∙◌, ap}
use mathlib.Core.List.{List, []}
use native.Mathlib.Omega.{arith}
use lib.ListN.{length, drop, length-drop}
use Rattle.answers.specs.Answers.{done}
use Rattle.answers.specs.Limits.{longest_stream}
use Rattle.grammar.specs.Grammar.{Reading, Reads, units}
use Rattle.grammar.specs.Rows.{placed_units, rows_from, rows}
use Rattle.grammar.specs.Reader.{stop_at, walk, said, filing_into}
use Rattle.grammar.specs.Refusals.{Refuses, no_code}
use Rattle.grammar.specs.declared.Reason.{Reason}
use Rattle.grammar.specs.declared.Reason.TheVariants as reason
use Rattle.grammar.proofs.Main.{walked_iff}
use Rattle.grammar.proofs.RowLaws.{rows_length}
use Rattle.filing.specs.declared.Refusal.{Refusal}
use Rattle.filing.specs.Filing.{totals, FiledByReading}
use Rattle.filing.specs.Reader.{filed}
use Rattle.filing.specs.declared.Totals.{Totals}
use Rattle.filing.proofs.Demand.{into_good, into_bad}
use Rattle.cuts.specs.Cuts.{FiledAs, RefusedAs}
use Rattle.cuts.specs.Reader.{FiledWith, RefusedFor}
use Rattle.cuts.proofs.RestLaws.{rows_count}

-- ── by the computations ──

-- a stream that is read, within the limit and with words for its rows
pub read_filed : (s : List ℕ) (q : Reading) → Reads s q → length s ≤ longest_stream → (lent : ℕ) → 3 * length (rows q) ≤ lent → FiledWith s lent (rows q)
unfolding filed filing_into
read_filed s q h short lent room =
    let ms = placed_units q in
    let w : walk s ≡ Ok ms = (walked_iff s ms).1 (short, (q, h, refl)) in
    let m : length ms ≡ length (rows q) = sym (rows_length 0 ms) in
    let i = into_good s lent ms w (omega arith) in
    record {
      checked = ap (said length) w ∙ ap done m;
      rows = ap (said (rows_from 0)) i;
      totals = ap (said totals) i ∙ ap (λ (j : ℕ). done (record { units = j })) m;
    }

pub stopped_refused : (s : List ℕ) (why : Reason) → walk s ≡ stop_at why 0 → RefusedFor s why
unfolding filed filing_into
stopped_refused s why e = record {
  checked = ap (said length) e;
  rows = λ lent. ap (said (rows_from 0)) (into_bad s lent _ e);
  totals = λ lent. ap (said totals) (into_bad s lent _ e);
}

-- ── by the promise of `file` ──

pub read_file : (s : List ℕ) (q : Reading) → Reads s q → length s ≤ longest_stream → (lent after : List ℕ) (a : Result Totals Refusal) → FiledByReading s lent after a → 3 * length (rows q) ≤ length lent →
    FiledAs (rows q) lent after a
read_file s q h short lent after a p room =
    let e : length (units q) ≡ length (rows q) = sym (rows_count q) in
    let f = (p.filed (length (rows q))).1 (short, (q, h, e), room) in
    (f, p.rows (length (rows q)) f q h)

pub unread_file : (s : List ℕ) → ((q : Reading) → ¬ Reads s q) → (lent after : List ℕ) (a : Result Totals Refusal) → FiledByReading s lent after a → RefusedAs lent after a
unread_file s none lent after (Ok t) p = let k = (p.filed t.units).0 refl in absurd (none k.1.0 k.1.1)
unread_file s none lent after (Err why) p = ((why, refl), p.kept why refl)

-- what is filed is within the limit, and so is what is left of it
pub within_drop : (stream lent after : List ℕ) (t : Totals) → FiledByReading stream lent after (Ok t) → (n : ℕ) → length (drop n stream) ≤ longest_stream
within_drop stream lent after t p n =
    let k = ((p.filed t.units).0 refl).0 in
    let d = length-drop n stream in
    omega arith

-- the words that held all rows hold no more of them
pub enough : (stream lent after : List ℕ) (t : Totals) → FiledByReading stream lent after (Ok t) → (r : Reading) → Reads stream r → (m : ℕ) → m ≤ length (rows r) → 3 * m ≤ length lent
enough stream lent after t p r h m l =
    let k = (p.filed t.units).0 refl in
    let u : length (units r) ≡ t.units = ap (λ (y : Reading). length (units y)) (p.one r k.1.0 h k.1.1) ∙ k.1.2 in
    let c = rows_count r in
    let room = k.2 in
    omega arith

-- where nothing is left there is no 00 00 01
pub nothing_refused : Refuses [] reason.NoCode 0
nothing_refused = no_code (omega arith) (λ h. let e = h.1 in let z : ◌≡◌ {A = ℕ} 0 1 = cc in omega arith) refl refl
