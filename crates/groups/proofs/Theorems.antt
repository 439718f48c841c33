-- What is answered for group g is that of the reading, and a refusal is the stream's.
use Rattle.std.proofs.Common.{Option, Result, Ok, Err}
use Prim.Native.Nat.{ℕ, zero, suc, ◌≤◌}
use mathlib.Core.Path.{◌≡◌, refl, sym, ◌∙◌, ap}
use mathlib.Core.Logic.{◌↔◌}
use mathlib.Core.List.{List, [], ◌∷◌, map}
use lib.ListN.{length}
use native.Mathlib.Omega.{arith}
use Rattle.answers.specs.Answers.{Carried, Outcome, done, refused, and_then, OneToOne, NO_ROW}
use Rattle.answers.specs.Limits.{longest_stream}
use Rattle.answers.proofs.OutcomeLaws.{not_done, not_refused, undone}
use Rattle.answers.proofs.ResultLaws.{not_ok}
use Rattle.bits.proofs.TestLaws.{by_test}
use Rattle.startcode.specs.Prefix.{begins}
use Rattle.bodies.specs.Reader.{header_of}
use Rattle.bodies.specs.declared.SequenceHeader.{SequenceHeader}
use Rattle.grammar.specs.Grammar.{StreamUnit, Reading, Reads, units}
use Rattle.grammar.specs.Rows.{Placed, placed_units}
use Rattle.grammar.specs.Reasons.{reason_number, carries, ByNumber}
use Rattle.grammar.specs.Refusals.{Refuses}
use Rattle.grammar.specs.Reader.{Cut, cut, Walk, stop_at, walk_of_any, walk, said}
use Rattle.grammar.specs.declared.Reason.TheVariants.{NoCode}
use Rattle.grammar.proofs.CutLaws.{chunk, cut_units}
use Rattle.grammar.proofs.Filing.{unit_of, units_of_placed, walked_iff, said_done}
use Rattle.grammar.proofs.Refusals.{stopped_iff, said_iff}
use Rattle.filing.specs.declared.Refusal.{Refusal}
use Rattle.filing.proofs.Demand.{refusal_of, refusal_undone, walk_good}
use Rattle.bodies.specs.declared.DisplayExtension.{DisplayExtension}
use Rattle.groups.specs.Groups.{GroupRecord, group_says, GroupOfReading, GroupByReading}
use Rattle.groups.specs.Reader.{display_in, group_of, begins_group, group_in, group_at}
use Rattle.groups.specs.Inside.{units_in, units_from, Here}
use Rattle.groups.specs.declared.GroupError.{GroupError}
use Rattle.groups.specs.declared.GroupError.TheVariants as error
use Rattle.groups.proofs.ReadingLaws.{number_given, given_number, no_number}

-- ── a stream with a reading ──

module _ (s : List ℕ) (g : ℕ) where
  -- of a stream that is good, the group of its units
  at_walked : (ms : List Placed) → walk s ≡ Ok ms → group_at s g ≡ group_in g (map unit_of ms)
  unfolding group_at
  at_walked ms e = ap (λ (w : Walk). and_then (said (map unit_of) w) (group_in g)) e

  module _ (r : Reading) (short : length s ≤ longest_stream) (h : Reads s r) where
    at_units : group_at s g ≡ group_in g (units r)
    at_units = at_walked (placed_units r) ((walked_iff s (placed_units r)).1 (short, (r, h, refl))) ∙ ap (group_in g) (units_of_placed r)

    pub group_is_lem : GroupOfReading r g (group_at s g)
    group_is_lem = record {
      given = λ x. (
        (λ e. number_given r.ending h.ending g r.groups h.groups x (sym at_units ∙ e)),
        λ k. at_units ∙ given_number r.ending h.ending g r.groups h.groups x k.0 k.1 k.2,
      );
      no_row = let p = no_number r.ending h.ending g r.groups h.groups in ((λ e. p.0 (sym at_units ∙ e)), λ l. at_units ∙ p.1 l);
    }

-- ── refusals ──

not_offset : {P A : Type 0} {m n : ℕ} {c : Carried} {cs : List Carried} → ◌≡◌ {A = Outcome A} (refused m (c ∷ cs)) (refused n []) → P
not_offset {c = c} {cs = cs} e = let z : ◌≡◌ {A = List Carried} (c ∷ cs) [] = cc in let y : ◌≡◌ {A = ℕ} 0 1 = cc in absurd (omega arith)

module _ (n : ℕ) (first : Carried) (more : List Carried) where
  group_no_offset : {P : Type 0} (o : Outcome SequenceHeader) (d : Option DisplayExtension) → group_of o d ≡ refused n (first ∷ more) → P
  group_no_offset (done header) d e = not_refused e
  group_no_offset (refused m carried) d e = not_offset (sym e)

  -- what is answered of the units of a stream carries nothing
  units_no_offset : {P : Type 0} (g : ℕ) (us : List StreamUnit) → group_in g us ≡ refused n (first ∷ more) → P
  unfolding group_in
  units_no_offset g [] e = not_offset (sym e)
  units_no_offset zero (u ∷ us) e = by_test (begins_group u) (λ t. group_no_offset (header_of u.body) (display_in us) (rw t at e)) (λ f. units_no_offset zero us (rw f at e))
  units_no_offset (suc g) (u ∷ us) e = by_test (begins_group u) (λ t. units_no_offset g us (rw t at e)) (λ f. units_no_offset (suc g) us (rw f at e))

  from_units : (g : ℕ) (o : Outcome (List StreamUnit)) → (and_then o (group_in g) ≡ refused n (first ∷ more)) ↔ (o ≡ refused n (first ∷ more))
  from_units g (done us) = ((λ e. units_no_offset g us e), λ e. not_refused e)
  from_units g (refused m carried) = (
    (λ e. let p : m ≡ n = cc in let q : carried ≡ first ∷ more = cc in rw (p, q)),
    λ e. let p : m ≡ n = cc in let q : carried ≡ first ∷ more = cc in rw (p, q),
  )

pub group_refused : (s : List ℕ) (g n : ℕ) (first : Carried) (more : List Carried) → (group_at s g ≡ refused n (first ∷ more)) ↔ ByNumber (Refuses s) n (first ∷ more)
unfolding group_at
group_refused s g n first more =
    let f = from_units n first more g (said (map unit_of) (walk s)) in
    let k = said_iff (map unit_of) (walk s) (Refuses s) (stopped_iff s) n (first ∷ more) in
    ((λ e. k.0 (f.0 e)), λ h. f.1 (k.1 h))

-- a refusal that carries nothing is NO ROW
row_number : (n : ℕ) (g : ℕ) (us : List StreamUnit) → group_in g us ≡ refused n [] → n ≡ NO_ROW
unfolding group_in
row_number n g [] e = cc
row_number n zero (u ∷ us) e = by_test (begins_group u) (λ t. of_group (header_of u.body) (rw t at e)) (λ f. row_number n zero us (rw f at e))
  where
    of_group : (o : Outcome SequenceHeader) → group_of o (display_in us) ≡ refused n [] → n ≡ NO_ROW
    of_group (done header) e = not_refused e
    of_group (refused m carried) e = cc
row_number n (suc g) (u ∷ us) e = by_test (begins_group u) (λ t. row_number n g us (rw t at e)) (λ f. row_number n (suc g) us (rw f at e))

pub group_no_row : (s : List ℕ) (g n : ℕ) → group_at s g ≡ refused n [] → n ≡ NO_ROW
unfolding group_at
group_no_row s g n e = by_walk (walk s) e
  where
    by_walk : (w : Walk) → and_then (said (map unit_of) w) (group_in g) ≡ refused n [] → n ≡ NO_ROW
    by_walk (Ok ms) e = row_number n g (map unit_of ms) e
    by_walk (Err x) e = not_offset e

-- ── any stream ──

module _ (s : List ℕ) (g : ℕ) where
  by_walk : (w : Walk) → walk s ≡ w → group_at s g ≡ and_then (said (map unit_of) w) (group_in g)
  unfolding group_at
  by_walk w e = ap (λ (w : Walk). and_then (said (map unit_of) w) (group_in g)) e

  -- a record or NO ROW is of a stream that has a reading
  Read : Type 0
  Read = (length s ≤ longest_stream) × ((r : Reading) × Reads s r)

  good_read : (ms : List Placed) → walk s ≡ Ok ms → Read
  unfolding Read
  good_read ms e = let k = (walked_iff s ms).0 e in (k.0, (k.1.0, k.1.1))

  record_read : (x : GroupRecord) → group_at s g ≡ done x → (w : Walk) → walk s ≡ w → Read
  record_read x e (Ok ms) f = good_read ms f
  record_read x e (Err y) f = not_done (sym (by_walk (Err y) f) ∙ e)

  row_read : group_at s g ≡ refused NO_ROW [] → (w : Walk) → walk s ≡ w → Read
  row_read e (Ok ms) f = good_read ms f
  row_read e (Err y) f = not_offset (sym (by_walk (Err y) f) ∙ e)

  pub group_exactly : GroupByReading s g (group_at s g)
  unfolding Read
  group_exactly = record {
    given = λ x. (
      (λ e. let k = record_read x e (walk s) refl in (k.0, (k.1.0, k.1.1, ((group_is_lem s g k.1.0 k.0 k.1.1).given x).0 e))),
      λ h. ((group_is_lem s g h.1.0 h.0 h.1.1).given x).1 h.1.2,
    );
    no_row = (
      (λ e. let k = row_read e (walk s) refl in (k.0, (k.1.0, k.1.1, (group_is_lem s g k.1.0 k.0 k.1.1).no_row.0 e))),
      λ h. (group_is_lem s g h.1.0 h.0 h.1.1).no_row.1 h.1.2,
    );
    refusal = group_refused s g;
  }

-- ── what the code walks over ──

chunk_units : (us : List StreamUnit) → units_in (map chunk us) ≡ us
unfolding units_in
chunk_units [] = refl
chunk_units (u ∷ us) = ap (λ (l : List StreamUnit). u ∷ l) (chunk_units us)

-- the units from the start on are the reading's
units_are : (s : List ℕ) (r : Reading) → Reads s r → units_from s 0 ≡ units r
unfolding units_from
units_are s r h =
    ap (λ (l : List ℕ). units_in (cut l).chunks) (sym h.stream_is) ∙ ap (λ (c : Cut). units_in c.chunks) (cut_units (units r) h.alone) ∙ chunk_units (units r)

module _ (s : List ℕ) (g n : ℕ) (e : done n ≡ said length (walk s)) where
  found : (ms : List Placed) × (walk s ≡ Ok ms) × (length ms ≡ n)
  found = said_done length (walk s) n (sym e)

  pub at_good : group_in g (units_from s 0) ≡ group_at s g
  at_good = let k = (walked_iff s found.0).0 found.1 in ap (group_in g) (units_are s k.1.0 k.1.1) ∙ sym (at_units s g k.1.0 k.0 k.1.1)

  pub here_start : Here s 0
  unfolding walk_of_any
  here_start = let k = (walk_good s found.0 found.1).1 in record { inside = omega arith; prefix = λ l. by_test (begins s) (λ b. b) (λ f. let z : stop_at NoCode 0 ≡ Ok found.0 = rw f at k in not_ok z) }

pub at_refused : (s : List ℕ) (g n : ℕ) (carried : List Carried) → refused n carried ≡ said length (walk s) → refused n carried ≡ group_at s g
unfolding group_at
at_refused s g n carried e = by_outcome (walk s) e
  where
    by_outcome : (w : Walk) → refused n carried ≡ said length w → refused n carried ≡ and_then (said (map unit_of) w) (group_in g)
    by_outcome (Ok ms) e = not_done e
    by_outcome (Err x) e = let p : n ≡ reason_number x.reason = cc in let q : carried ≡ carries x.reason x.offset = cc in rw (p, q)

-- ── answers and their numbers ──

pub group_one_to_one : OneToOne group_says
group_one_to_one = undone group_says back is
  where
    back : Outcome GroupRecord → Result GroupRecord GroupError
    back (done x) = Ok x
    back (refused n []) = Err error.NoRow
    back (refused n (first ∷ more)) = Err (error.Refused (refusal_of n (first ∷ more)))

    is : (a : Result GroupRecord GroupError) → back (group_says a) ≡ a
    is (Ok x) = refl
    is (Err error.NoRow) = refl
    is (Err (error.Refused r)) = ap (λ (why : Refusal). Err (error.Refused why)) (refusal_undone r)
