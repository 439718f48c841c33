-- What filing answers, in the grammar's words.
use Rattle.std.proofs.Common.{Result, Ok, Err}
use Prim.Native.Nat.{ℕ, ◌≤◌, ◌<◌, ◌*◌}
use mathlib.Core.Path.{◌≡◌, refl, sym, ◌∙◌, ap}
use mathlib.Core.Logic.{◌↔◌}
use mathlib.Core.List.{List, [], ◌∷◌, ◌++◌}
use mathlib.Core.Bool.{cond, ◌&&◌}
use lib.Dec.{ltb, leb, eqb}
use lib.ListN.{length, drop}
use borrow.Author.Tests.{lt-ltb, le-ltb, le-leb, ltb-false}
use native.Mathlib.Omega.{arith}
use Rattle.answers.specs.Answers.{Carried, at_offset, at_bit, missing, Outcome, done, refused, OneToOne, FULL}
use Rattle.answers.specs.Limits.{longest_stream}
use Rattle.answers.specs.Results.{map_ok}
use Rattle.answers.proofs.OutcomeLaws.{undone}
use Rattle.answers.proofs.ResultLaws.{not_ok, not_err, ok_same, err_same}
use Rattle.bits.proofs.TestLaws.{by_test}
use Rattle.bodies.specs.Answers.{fault_number, fault_bit}
use Rattle.bodies.proofs.BreakLaws.{value_over}
use Rattle.bodies.proofs.SaysLaws.{fault_of, fault_of_lem}
use Rattle.layout.specs.declared.JudgedField.{JudgedField}
use Rattle.layout.specs.declared.Fault.TheVariants as fault
use Rattle.grammar.specs.Grammar.{Reading, Reads, units}
use Rattle.grammar.specs.Rows.{Placed, placed_units, rows_from, words, rows}
use Rattle.grammar.specs.Reasons.{reason_number, reason_bit, carries, ByNumber}
use Rattle.grammar.specs.Reader.{Stopped, Walk, stop_at, walk_of_any, walk, said, within, walk_into, filing_into}
use Rattle.grammar.specs.Refusals.{Refuses, RefusesInto, refuses, full}
use Rattle.grammar.specs.declared.Reason.{Reason}
use Rattle.grammar.specs.declared.Reason.TheVariants as reason
use Rattle.grammar.proofs.ReasonLaws.{refuses_fair}
use Rattle.grammar.proofs.Filing.{walked_iff, said_done}
use Rattle.grammar.proofs.LentLaws as grammar_lent
use Rattle.grammar.proofs.Refusals.{said_refused, said_iff, stopped_iff, into_stopped_iff}
use Rattle.grammar.proofs.RowLaws.{rows_length, units_length}
use Rattle.grammar.proofs.Unique.{same_reading}
use Rattle.filing.specs.Filing.{totals, words_after, filing_says, ReadingOf, FiledByReading, ByReading}
use Rattle.filing.specs.Reader.{filed}
use Rattle.filing.specs.Inside.{checked_gives}
use Rattle.filing.specs.declared.Refusal.{Refusal}
use Rattle.filing.specs.declared.Totals.{Totals}

-- ── the order of the tests ──

module _ (s : List ℕ) where
  pub walk_long : longest_stream < length s → walk s ≡ stop_at reason.TooLong 0
  unfolding walk
  walk_long h = rw (lt-ltb longest_stream (length s) h)

  pub walk_short : length s ≤ longest_stream → walk s ≡ walk_of_any s
  unfolding walk
  walk_short h = rw (le-ltb longest_stream (length s) h)

  pub walk_good : (ms : List Placed) → walk s ≡ Ok ms → (length s ≤ longest_stream) × (walk_of_any s ≡ Ok ms)
  unfolding walk
  walk_good ms e = by_test (ltb longest_stream (length s)) (λ t. not_ok (rw t at e)) (λ f. (ltb-false longest_stream (length s) f, rw f at e))

module _ (s : List ℕ) (lent : ℕ) where
  pub into_bad : (x : Stopped) → walk s ≡ Err x → walk_into s lent ≡ Err x
  unfolding walk_into
  into_bad x e = ap (within lent) e

  pub into_full : (ms : List Placed) → walk s ≡ Ok ms → lent < 3 * length ms → walk_into s lent ≡ stop_at reason.Full 0
  unfolding walk_into
  into_full ms e k = ap (within lent) e ∙ rw (lt-ltb lent (3 * length ms) k)

  pub into_good : (ms : List Placed) → walk s ≡ Ok ms → 3 * length ms ≤ lent → walk_into s lent ≡ Ok ms
  into_good = grammar_lent.into_good s lent

good_into : (s : List ℕ) (lent : ℕ) (ms : List Placed) → walk_into s lent ≡ Ok ms → (walk s ≡ Ok ms) × (3 * length ms ≤ lent)
good_into = grammar_lent.good_into

-- ── what the first pass says ──

pub said_checked : (w : Walk) (c : Result ℕ Refusal) → checked_gives c ≡ map_ok length w → filing_says c ≡ said length w
said_checked (Ok ms) (Ok n) e = ap done (ok_same e)
said_checked (Ok ms) (Err r) e = not_ok e
said_checked (Err x) (Ok n) e = not_err e
said_checked (Err x) (Err r) e = ap (λ (x : Stopped). refused (reason_number x.reason) (carries x.reason x.offset)) (err_same e)

-- ── answers and their numbers ──

-- a reason from its number and its bit: first the numbers of fields
reason_of : ℕ → List Carried → Reason
reason_of n bit =
    cond (leb 20 n && leb n 30) (reason.Body (fault_of n bit))
    (cond (eqb n 1) reason.NoCode (cond (eqb n 2) reason.Cut (cond (eqb n 3) reason.Overlap (cond (eqb n 4) reason.Unknown
    (cond (eqb n 5) reason.OutOfPlace (cond (eqb n 10) reason.Twice (cond (eqb n 11) reason.Unended (cond (eqb n 12) reason.Full
    (cond (eqb n 13) reason.TooLong (cond (eqb n 31) reason.SliceOrder (cond (eqb n 32) reason.SliceRow (reason.Body (fault_of n bit)))))))))))))

value_undone : (field : JudgedField) (at : ℕ) → reason_of (fault_number (fault.Value field at)) (fault_bit (fault.Value field at)) ≡ reason.Body (fault.Value field at)
unfolding reason_of
value_undone field at =
    let n = fault_number (fault.Value field at) in
    let v : (20 ≤ n) × (n ≤ 30) = unfold fault_number in value_over field in
    rw (le-leb 20 n v.0, le-leb n 30 v.1) (ap reason.Body (fault_of_lem (fault.Value field at)))

reason_undone : (r : Reason) → reason_of (reason_number r) (reason_bit r) ≡ r
unfolding reason_of
reason_undone reason.NoCode = refl
reason_undone reason.Cut = refl
reason_undone reason.Overlap = refl
reason_undone reason.Unknown = refl
reason_undone reason.OutOfPlace = refl
reason_undone (reason.Body fault.Short) = unfold fault_number in ap reason.Body (fault_of_lem fault.Short)
reason_undone (reason.Body (fault.Marker at)) = unfold fault_number in ap reason.Body (fault_of_lem (fault.Marker at))
reason_undone (reason.Body (fault.Value field at)) = value_undone field at
reason_undone (reason.Body fault.Stuffing) = unfold fault_number in ap reason.Body (fault_of_lem fault.Stuffing)
reason_undone reason.SliceOrder = refl
reason_undone reason.SliceRow = refl
reason_undone reason.Twice = refl
reason_undone reason.Unended = refl
reason_undone reason.Full = refl
reason_undone reason.TooLong = refl

-- a refusal is told from its number and what it carries, which begins with its offset
offset_of : List Carried → ℕ
offset_of [] = 0
offset_of (at_offset n ∷ more) = n
offset_of (at_bit n ∷ more) = 0
offset_of (missing n ∷ more) = 0

pub refusal_of : ℕ → List Carried → Refusal
refusal_of n carried = record { reason = reason_of n (drop 1 carried); offset = offset_of carried }

pub refusal_undone : (r : Refusal) → refusal_of (reason_number r.reason) (carries r.reason r.offset) ≡ r
unfolding refusal_of offset_of
refusal_undone r = ap (λ (w : Reason). record { reason = w; offset = r.offset }) (reason_undone r.reason)

pub filing_one_to_one : {A : Type 0} → OneToOne (filing_says {A = A})
filing_one_to_one {A} = undone filing_says back is
  where
    back : Outcome A → Result A Refusal
    back (done a) = Ok a
    back (refused n carried) = Err (refusal_of n carried)

    is : (a : Result A Refusal) → back (filing_says a) ≡ a
    is (Ok a) = refl
    is (Err r) = ap Err (refusal_undone r)

-- ── demand 3 ──

-- of the outcome
module _ (s : List ℕ) (lent : ℕ) where
  -- the units of a reading are those that the walk finds
  read_walked : (x : Reading) → length s ≤ longest_stream → Reads s x → walk s ≡ Ok (placed_units x)
  read_walked x h k = (walked_iff s (placed_units x)).1 (h, (x, k, refl))

  filed_if : (n : ℕ) → filed s lent ≡ done (record { units = n }) → (length s ≤ longest_stream) × ReadingOf s n × (3 * n ≤ lent)
  unfolding filed
  filed_if n e =
      let (ms, w, t) = said_done totals (walk_into s lent) (record { units = n }) e in
      let (g, room) = good_into s lent ms w in
      let (short, (x, k, same)) = (walked_iff s ms).0 g in
      let c : length ms ≡ n = ap (λ (t : Totals). t.units) t in
      (short, (x, k, sym (units_length x) ∙ ap length (sym same) ∙ c), omega arith)

  if_filed : (n : ℕ) → (length s ≤ longest_stream) × ReadingOf s n × (3 * n ≤ lent) → filed s lent ≡ done (record { units = n })
  unfolding filed
  if_filed n (short, (x, k, is), room) =
      let c : length (placed_units x) ≡ n = units_length x ∙ is in
      ap (said totals) (into_good s lent (placed_units x) (read_walked x short k) (omega arith)) ∙ ap (λ (m : ℕ). done (record { units = m })) c

  pub totals_iff : (n : ℕ) → (filed s lent ≡ done (record { units = n })) ↔ ((length s ≤ longest_stream) × ReadingOf s n × (3 * n ≤ lent))
  totals_iff n = (filed_if n, if_filed n)

  abbrev Fewer : Type 0
  Fewer = (length s ≤ longest_stream) × ((n : ℕ) × ReadingOf s n × (lent < 3 * n))

  full_if : (carried : List Carried) → filed s lent ≡ refused FULL carried → Fewer
  unfolding filed
  full_if carried e =
      let (why, at, k, n, c) = (said_iff totals (walk_into s lent) (RefusesInto s lent) (into_stopped_iff s lent) FULL carried).0 e in
      by_cause why at k n
    where
      by_cause : (why : Reason) (at : ℕ) → RefusesInto s lent why at → FULL ≡ reason_number why → Fewer
      by_cause why at (refuses k) n = absurd ((refuses_fair k).0 (sym n))
      by_cause why at (full l x k b w p) n = (l, (length (units x), (x, k, refl), b))

  if_full : Fewer → filed s lent ≡ refused FULL (at_offset 0 ∷ [])
  unfolding filed
  if_full (short, (n, (x, k, c), fewer)) = ap (said totals) ((into_stopped_iff s lent reason.Full 0).1 (full short x k (omega arith) refl refl))

-- and of the words after
module _ (s lent after : List ℕ) (words_are : after ≡ words_after (filing_into s (length lent)) lent) where
  rows_are : (n : ℕ) → filed s (length lent) ≡ done (record { units = n }) → (x : Reading) → Reads s x → after ≡ words (rows x) ++ drop (3 * n) lent
  unfolding filing_into
  rows_are n e x h =
      let (short, (y, k, is), room) = filed_if s (length lent) n e in
      let same = same_reading s x y h k in
      let u : length (placed_units x) ≡ n = units_length x ∙ ap (λ (y : Reading). length (units y)) same ∙ is in
      let c : length (rows x) ≡ n = rows_length 0 (placed_units x) ∙ u in
      let i = into_good s (length lent) (placed_units x) (read_walked s (length lent) x short h) (omega arith) in
      words_are ∙ ap (λ (w : Walk). words_after (said (rows_from 0) w) lent) i ∙ ap (λ (m : ℕ). words (rows x) ++ drop (3 * m) lent) c

  kept_are : (n : ℕ) (carried : List Carried) → filed s (length lent) ≡ refused n carried → after ≡ lent
  unfolding filed filing_into
  kept_are n carried e = words_are ∙ ap (λ (w : Walk). words_after (said (rows_from 0) w) lent) (said_refused totals (walk_into s (length lent)) n carried e).1

  -- an answer that says the outcome keeps demand 3
  module _ (IsFiled : ℕ → Type 0) (IsFull IsRefused : Type 0) (is_filed : (n : ℕ) → IsFiled n ↔ (filed s (length lent) ≡ done (record { units = n })))
      (is_full : IsFull → (carried : List Carried) × (filed s (length lent) ≡ refused FULL carried)) (if_is_full : filed s (length lent) ≡ refused FULL (at_offset 0 ∷ []) → IsFull)
      (is_refused : IsRefused → (n : ℕ) × (carried : List Carried) × (filed s (length lent) ≡ refused n carried)) where
    pub by_reading : ByReading s lent after IsFiled IsFull IsRefused
    by_reading = record {
      filed = λ n. ((λ i. filed_if s (length lent) n ((is_filed n).0 i)), λ h. (is_filed n).1 (if_filed s (length lent) n h));
      full = ((λ i. let (carried, e) = is_full i in full_if s (length lent) carried e), λ h. if_is_full (if_full s (length lent) h));
      rows = λ n i x h. rows_are n ((is_filed n).0 i) x h;
      kept = λ i. let (n, carried, e) = is_refused i in kept_are n carried e;
      one = same_reading s;
    }

abbrev full_answer : Result Totals Refusal
full_answer = Err (record { reason = reason.Full; offset = 0 })

-- `file`'s own answer says it in this way
pub filed_by_iff : (s lent after : List ℕ) (r : Result Totals Refusal) →
    FiledByReading s lent after r
    ↔ ByReading s lent after (λ n. r ≡ Ok (record { units = n })) (r ≡ Err (record { reason = reason.Full; offset = 0 })) ((why : Refusal) × (r ≡ Err why))
filed_by_iff s lent after r = (
  (λ f. record { filed = f.filed; full = f.full; rows = f.rows; kept = λ (why, e). f.kept why e; one = f.one }),
  λ b. record { filed = b.filed; full = b.full; rows = b.rows; kept = λ why e. b.kept (why, e); one = b.one },
)

pub demand : (s lent after : List ℕ) (r : Result Totals Refusal) → filing_says r ≡ filed s (length lent) → after ≡ words_after (filing_into s (length lent)) lent → FiledByReading s lent after r
demand s lent after r says words_are =
    (filed_by_iff s lent after r).1
    (by_reading s lent after words_are _ _ _
    (λ n. ((λ e. sym says ∙ ap filing_says e), λ e. filing_one_to_one r (Ok (record { units = n })) (says ∙ e)))
    (λ e. (at_offset 0 ∷ [], sym says ∙ ap filing_says e))
    (λ e. filing_one_to_one r full_answer (says ∙ e))
    (λ (why, e). (reason_number why.reason, carries why.reason why.offset, sym says ∙ ap filing_says e)))

-- ── refusals ──

pub refused_by : (s : List ℕ) (lent : ℕ) (r : Result Totals Refusal) → filing_says r ≡ filed s lent → (why : Refusal) → (r ≡ Err why) ↔ ByNumber (RefusesInto s lent) (reason_number why.reason) (carries why.reason why.offset)
unfolding filed
refused_by s lent r says why =
    let k = said_iff totals (walk_into s lent) (RefusesInto s lent) (into_stopped_iff s lent) (reason_number why.reason) (carries why.reason why.offset) in
    ((λ e. k.0 (sym says ∙ ap filing_says e)), λ h. filing_one_to_one r (Err why) (says ∙ k.1 h))

-- an answer with its words, and what they say of readings
pub settled : (s lent after : List ℕ) (r : Result Totals Refusal) (w : Walk) → walk_into s (length lent) ≡ w → filing_says r ≡ said totals w → after ≡ words_after (said (rows_from 0) w) lent →
    (filing_says r ≡ filed s (length lent)) × ((after ≡ words_after (filing_into s (length lent)) lent) × FiledByReading s lent after r)
unfolding filed filing_into
settled s lent after r w e says kept =
    let a = says ∙ ap (said totals) (sym e) in
    let k = kept ∙ ap (λ (x : Walk). words_after (said (rows_from 0) x) lent) (sym e) in
    (a, (k, demand s lent after r a k))

-- ── with no row written ──

pub counted_iff : (s : List ℕ) (n : ℕ) → (said length (walk s) ≡ done n) ↔ ((length s ≤ longest_stream) × ReadingOf s n)
counted_iff s n = (
  (λ e.
      let d = said_done length (walk s) n e in
      let k = (walked_iff s d.0).0 d.1 in
      (k.0, (k.1.0, k.1.1, sym (units_length k.1.0) ∙ ap length (sym k.1.2) ∙ d.2))),
  λ h. ap (said length) ((walked_iff s (placed_units h.1.0)).1 (h.0, (h.1.0, h.1.1, refl))) ∙ ap done (units_length h.1.0 ∙ h.1.2),
)

pub uncounted_iff : (s : List ℕ) (n : ℕ) (carried : List Carried) → (said length (walk s) ≡ refused n carried) ↔ ByNumber (Refuses s) n carried
uncounted_iff s = said_iff length (walk s) (Refuses s) (stopped_iff s)
