-- The laws of the two passes.
use Rattle.std.proofs.Common.{Result, Ok, Err}
use Prim.Native.Nat.{ℕ, zero, suc, ◌≤◌, ◌<◌, ◌+◌, ◌-◌, ◌*◌}
use mathlib.Core.Path.{◌≡◌, refl, sym, ◌∙◌, ap, subst}
use mathlib.Core.Logic.{inl, inr}
use mathlib.Core.List.{List, [], ◌∷◌, ◌++◌, append_assoc, append-nil}
use mathlib.Core.Bool.{Bool, true, false, cond}
use lib.ListN.{length, get_or, take, drop, set, length-append, length-drop, take-append-drop}
use lib.Seq.{drop-drop, take_at, drop_at, length-take-le, sets-eq, get_or-set_other}
use lib.Dec.{eqb, ltb}
use borrow.Author.Tests.{eqb-true, eqb-false, ltb-true, ltb-false}
use native.Mathlib.Numerals.{add-one, add-two}
use native.Mathlib.Omega.{arith}
use Rattle.answers.specs.Limits.{longest_stream}
use Rattle.answers.specs.Results.{map_ok}
use Rattle.answers.proofs.ResultLaws.{not_ok, ok_same, map_ok_lem}
use Rattle.bits.proofs.TestLaws.{by_test}
use Rattle.startcode.specs.Kinds.{kind_of}
use Rattle.startcode.specs.Prefix.{begins, next_prefix}
use Rattle.bodies.specs.declared.Scope.{Scope}
use Rattle.bodies.specs.declared.Scope.TheVariants as scope
use Rattle.grammar.specs.Grammar.{StreamUnit, bytes}
use Rattle.grammar.specs.Rows.{Placed, placed, row_length, rows_from, words}
use Rattle.grammar.specs.Reader.{final, Stopped, Walk, stop_at, add_unit, walk_of_any, said}
use Rattle.grammar.specs.declared.State.{State}
use Rattle.grammar.specs.declared.State.TheVariants.{Start}
use Rattle.grammar.specs.declared.Reason.TheVariants.{NoCode, Unended}
use Rattle.grammar.proofs.Division.{Goes, sequence, user, extension, display, first_picture, extra, first_slice, next_slice, next_picture, next_sequence, end as sequence-end, edit, end_edit}
use Rattle.grammar.proofs.RowLaws.{rows_length}
use Rattle.grammar.proofs.StepLaws.{step_sound}
use Rattle.grammar.proofs.WalkLaws.{left, left_end, unit_between}
use Rattle.units.proofs.UnitLaws.{Advanced, stands}
use Rattle.filing.specs.Filing.{words_after}
use Rattle.filing.specs.declared.Refusal.{Refusal}
use Rattle.filing.proofs.ScopeLaws.{extension_scope, scope_same}
use Rattle.filing.specs.Inside.{offset_of, short_span, Spans, Kept, Passed, scope_after, Writable}

pub any_left : (s : List ℕ) → begins s ≡ true → walk_of_any s ≡ left s Start 0
unfolding walk_of_any left
any_left s b = rw b

-- ── counting ──

-- k units, and those that are left
abbrev pub counted : ℕ → Walk → Result ℕ Stopped
counted k w = map_ok (λ ms. k + length ms) w

count_unit : (k : ℕ) (m : Placed) (w : Walk) → counted k (add_unit m w) ≡ counted (k + 1) w
count_unit k m (Ok ms) = ap Ok (omega arith)
count_unit k m (Err s) = refl

count_start : (w : Walk) → map_ok length w ≡ counted 0 w
count_start (Ok ms) = ap Ok (omega arith)
count_start (Err s) = refl

-- ── spans that are kept ──

-- a span that fits leads to the end, and 0 stands for one that does not
short_spans : (at end : ℕ) → at ≤ end → Spans (short_span (end - at)) at end
short_spans at end h =
    by_test (ltb (end - at) 65536)
    (λ t. rw t (λ n. omega arith))
    (λ f. rw f (λ n. absurd (n refl)))

-- it is kept, or there is no word for it
set_spans : (l : List ℕ) (k x at end : ℕ) → Spans x at end → Spans (get_or (set l k x) k 0) at end
set_spans [] zero x at end h = λ n. absurd (n refl)
set_spans [] (suc k) x at end h = λ n. absurd (n refl)
set_spans (y ∷ l) zero x at end h = h
set_spans (y ∷ l) (suc k) x at end h = set_spans l k x at end h

kept_none : (s spans : List ℕ) → Kept s spans 0
kept_none s spans = record { span = λ i h. absurd (omega arith) }

kept_more : (s spans : List ℕ) (k at end : ℕ) → Kept s spans k → at ≡ offset_of s k → end ≡ offset_of s (suc k) → at ≤ end →
    Kept s (set spans k (short_span (end - at))) (k + 1)
kept_more s spans k at end g p e h =
    let last : Spans (get_or (set spans k (short_span (end - at))) k 0) (offset_of s k) (offset_of s (suc k)) =
    subst (Spans (get_or (set spans k (short_span (end - at))) k 0) (offset_of s k)) e
    (subst (λ (n : ℕ). Spans (get_or (set spans k (short_span (end - at))) k 0) n end) p (set_spans spans k (short_span (end - at)) at end (short_spans at end h))) in
    record {
      span = λ i l.
          by_test (eqb i k)
          (λ t. subst (λ (j : ℕ). Spans (get_or (set spans k (short_span (end - at))) j 0) (offset_of s j) (offset_of s (suc j))) (sym (eqb-true i k t)) last)
          (λ f.
          let d = eqb-false i k f in
          subst (λ (n : ℕ). Spans n (offset_of s i) (offset_of s (suc i))) (sym (get_or-set_other spans k i (short_span (end - at)) 0 d)) (g.span i (omega arith)));
    }

-- a unit's end is the next one's offset
offset_next : (s : List ℕ) (at k end : ℕ) → at ≡ offset_of s k → end ≡ next_prefix s (at + 3) → end ≡ offset_of s (suc k)
offset_next s at k end p e = e ∙ ap (λ (n : ℕ). next_prefix s (n + 3)) p

-- what holds at the first pass's head
pub record Checking (s spans : List ℕ) (q : State) (at k : ℕ) : Type 0 where
  pub place : at ≡ offset_of s k
  pub kept : Kept s spans k
  pub inside : at ≤ length s
  pub few : k ≤ at
  pub here : at < length s → begins (drop at s) ≡ true
  pub count : map_ok length (walk_of_any s) ≡ counted k (left s q at)

pub checking_start : (s spans : List ℕ) → begins s ≡ true → Checking s spans Start 0 0
checking_start s spans b =
    record {
      place = refl;
      kept = kept_none s spans;
      inside = omega arith;
      few = omega arith;
      here = λ h. b;
      count = ap (map_ok length) (any_left s b) ∙ count_start (left s Start 0);
    }

pub checking_next : (s spans : List ℕ) (q : State) (at k : ℕ) (next : State) (end n : ℕ) (spans' : List ℕ) → Checking s spans q at k → Advanced s q at next end n →
    spans' ≡ set spans k (short_span (end - at)) → Checking s spans' next end (k + 1)
checking_next s spans q at k next end n spans' c a e =
    let o = offset_next s at k end c.place a.end_is in
    record {
      place = o ∙ ap (offset_of s) (sym (add-one k));
      kept = rw e (kept_more s spans k at end c.kept c.place o (omega (arith, a.forward)));
      inside = a.within;
      few = omega (arith, c.few, a.forward);
      here = a.begins_next;
      count = c.count ∙ ap (counted k) a.more ∙ count_unit k a.unit (left s next end);
    }

-- the end of the stream
module _ (s spans : List ℕ) (q : State) (at k : ℕ) (c : Checking s spans q at k) (h : length s ≤ at) where
  at_end : at ≡ length s
  at_end = omega (arith, c.inside)

  end_count : map_ok length (walk_of_any s) ≡ counted k (cond (final q) (Ok []) (stop_at Unended at))
  end_count =
      c.count ∙ ap (counted k) (ap (left s q) at_end ∙ left_end s q ∙ ap (λ (n : ℕ). cond (final q) (Ok []) (stop_at Unended n)) (sym at_end))

  pub end_good : final q ≡ true → Ok k ≡ map_ok length (walk_of_any s)
  end_good f = let e : k ≡ k + 0 = omega arith in ap Ok e ∙ sym (end_count ∙ rw f)

  pub end_unended : final q ≡ false → stop_at Unended at ≡ map_ok length (walk_of_any s)
  end_unended f = sym (end_count ∙ rw f)

-- no prefix at the start
pub no_code : (s : List ℕ) → begins s ≡ false → stop_at NoCode 0 ≡ map_ok length (walk_of_any s)
unfolding walk_of_any
no_code s f = rw f

-- what the first pass found wrong
pub passed_refused : (s spans : List ℕ) (r : Refusal) → stop_at r.reason r.offset ≡ map_ok length (walk_of_any s) → Passed s spans (Err r)
passed_refused s spans r e = record { answer = e; kept = tt }

-- ── scopes ──

-- the kind of a unit that goes on settles the scope after it
after_goes : {u : StreamUnit} {q q' : State} → Goes q u q' → scope_after (extension_scope q) (kind_of u.code) ≡ extension_scope q'
after_goes (sequence c k) = rw c refl
after_goes (user c) = rw c refl
after_goes (extension c k n) = rw c refl
after_goes (display c k n d) = rw c refl
after_goes (first_picture c k) = rw c refl
after_goes (extra (inl c)) = rw c refl
after_goes (extra (inr k)) = rw k.0 refl
after_goes (first_slice k o) = rw k.0 refl
after_goes (next_slice k o) = rw k.0 refl
after_goes (next_picture (inl c) k) = rw c refl
after_goes (next_picture (inr c) k) = rw c refl
after_goes (next_sequence c k) = rw c refl
after_goes (sequence-end c k) = rw c refl
after_goes (edit c k) = rw c refl
after_goes (end_edit c k) = rw c refl

-- ── writing ──

-- what holds at the second pass's head: the rows that are written and those that are left make the whole; of the state that the units so far
-- lead to the pass knows the scope alone
pub record Writing (s spans : List ℕ) (units : ℕ) (lent rows : List ℕ) (p : Scope) (at i : ℕ) : Type 0 where
  pub all : List Placed
  pub rest : List Placed
  pub state : State
  pub scope_is : p ≡ extension_scope state
  pub walked : walk_of_any s ≡ Ok all
  pub short : length s ≤ longest_stream
  pub room : 3 * units ≤ length lent
  pub rest_is : left s state at ≡ Ok rest
  pub total : length all ≡ units
  pub count : i + length rest ≡ units
  pub made : take (i * 3) rows ++ words (rows_from at rest) ≡ words (rows_from 0 all)
  pub later : drop (i * 3) rows ≡ drop (i * 3) lent
  pub same : length rows ≡ length lent
  pub inside : at ≤ length s
  pub here : at < length s → begins (drop at s) ≡ true
  pub place : at ≡ offset_of s i
  pub kept : Kept s spans units

-- the end of the stream leaves no unit
ended : (t : Bool) (s : List ℕ) (ms : List Placed) → cond t (Ok []) (stop_at Unended (length s)) ≡ Ok ms → ms ≡ []
ended true s ms e = sym (ok_same e)
ended false s ms e = not_ok e

-- before the last unit the stream goes on
more_here : (s spans : List ℕ) (units : ℕ) (lent rows : List ℕ) (p : Scope) (at i : ℕ) (w : Writing s spans units lent rows p at i) → i < units → at < length s
more_here s spans units lent rows p at i w k = by_test (ltb at (length s))
    (λ t. ltb-true at (length s) t)
    (λ f.
    let g = ltb-false at (length s) f in
    let e : at ≡ length s = omega (arith, w.inside) in
    let none : w.rest ≡ [] = ended (final w.state) s w.rest (sym (ap (left s w.state) e ∙ left_end s w.state) ∙ w.rest_is) in
    let l = ap length none in
    absurd (omega (arith, w.count)))

-- the unit at an offset, by its scope
pub record UnitHere (s : List ℕ) (p : Scope) (q : State) (at : ℕ) : Type 0 where
  pub next : State
  pub advanced : Advanced s q at next (next_prefix s (at + 3)) (row_length (placed p (unit_between s at (next_prefix s (at + 3)))))
  pub after : scope_after p (kind_of (get_or s (at + 3) 0)) ≡ extension_scope next

pub unit_here : (s spans : List ℕ) (units : ℕ) (lent rows : List ℕ) (p : Scope) (at i : ℕ) (w : Writing s spans units lent rows p at i) → i < units → UnitHere s p w.state at
unit_here s spans units lent rows p at i w k =
    let h = more_here s spans units lent rows p at i w k in
    let u = unit_between s at (next_prefix s (at + 3)) in
    let t = stands s w.state at w.rest (w.here h) w.rest_is in
    let l : row_length (placed p u) ≡ _ = ap (λ (x : Scope). row_length (placed x u)) w.scope_is ∙ scope_same w.state u in
    record {
      next = t.next;
      advanced = subst (Advanced s w.state at t.next (next_prefix s (at + 3))) (sym l) t.advanced;
      after = ap (λ (x : Scope). scope_after x (kind_of u.code)) w.scope_is ∙ after_goes (step_sound w.state u t.next t.goes_on);
    }

-- a stream that is filed begins with a prefix
begun : (s : List ℕ) (ms : List Placed) → walk_of_any s ≡ Ok ms → begins s ≡ true
unfolding walk_of_any
begun s ms e = by_test (begins s) (λ t. t) (λ f. not_ok (rw f at e))

pub writing_start : (s spans : List ℕ) (units : ℕ) (lent : List ℕ) → Writable s spans units lent → Writing s spans units lent lent scope.Picture 0 0
writing_start s spans units lent w =
    let b = begun s w.all w.walked in
    record {
      all = w.all;
      rest = w.all;
      state = Start;
      scope_is = refl;
      walked = w.walked;
      short = w.short;
      room = w.room;
      rest_is = sym (any_left s b) ∙ w.walked;
      total = w.count;
      count = let c = w.count in omega arith;
      made = refl;
      later = refl;
      same = refl;
      inside = omega arith;
      here = λ h. b;
      place = refl;
      kept = w.kept;
    }

-- one row more
module _ (s spans : List ℕ) (units : ℕ) (lent rows : List ℕ) (p : Scope) (at i : ℕ) (next : State) (end n : ℕ) (w : Writing s spans units lent rows p at i) (a : Advanced s w.state at next end n) where
  next_units : (rest : List Placed) × (left s next end ≡ Ok rest) × (a.unit ∷ rest ≡ w.rest)
  next_units = map_ok_lem (λ ms. a.unit ∷ ms) (left s next end) w.rest (sym a.more ∙ w.rest_is)

  pub writing_room : i * 3 + 3 ≤ length rows
  writing_room =
      let r = ap length next_units.2 in
      omega (arith, w.count, w.room, w.same)

  -- the span that was kept of it leads to its end
  pub writing_kept : Spans (get_or spans i 0) at (next_prefix s (at + 3))
  writing_kept =
      let r = ap length next_units.2 in
      let o = offset_next s at i (next_prefix s (at + 3)) w.place refl in
      subst (λ (n : ℕ). Spans (get_or spans i 0) n (next_prefix s (at + 3))) (sym w.place) (subst (Spans (get_or spans i 0) (offset_of s i)) (sym o) (w.kept.span i (omega (arith, w.count))))

  -- the words of the row
  abbrev three : List ℕ
  three = get_or s (at + 3) 0 ∷ at ∷ n ∷ []

  words_are : words (rows_from at w.rest) ≡ three ++ words (rows_from end next_units.0)
  words_are =
      ap (λ (ms : List Placed). words (rows_from at ms)) (sym next_units.2)
      ∙ ap (λ (c : ℕ). c ∷ at ∷ row_length a.unit ∷ words (rows_from (at + length (bytes a.unit.unit)) next_units.0)) a.code
      ∙ ap (λ (l : ℕ). get_or s (at + 3) 0 ∷ at ∷ l ∷ words (rows_from (at + length (bytes a.unit.unit)) next_units.0)) a.length_is
      ∙ ap (λ (e : ℕ). three ++ words (rows_from e next_units.0)) a.bytes_are

  front_length : length (take (i * 3) rows ++ three) ≡ i * 3 + 3
  front_length = let r = writing_room in length-append (take (i * 3) rows) three ∙ rw (length-take-le (i * 3) rows (omega arith))

  pub writing_next : (rows' : List ℕ) (p' : Scope) → rows' ≡ take (i * 3) rows ++ (get_or s (at + 3) 0 ∷ at ∷ n ∷ drop (i * 3 + 3) rows) → p' ≡ extension_scope next → Writing s spans units lent rows' p' end (i + 1)
  writing_next rows' p' e f =
      let r = next_units in
      let l : suc (length r.0) ≡ length w.rest = ap length r.2 in
      let room = writing_room in
      let at_three : (i + 1) * 3 ≡ i * 3 + 3 = omega arith in
      let whole = e ∙ sym (append_assoc (take (i * 3) rows) three (drop (i * 3 + 3) rows)) in
      let d = length-drop (i * 3 + 3) rows in
      record {
        all = w.all;
        rest = r.0;
        state = next;
        scope_is = f;
        walked = w.walked;
        short = w.short;
        room = w.room;
        rest_is = r.1;
        total = w.total;
        count = omega (arith, w.count);
        made =
            ap (λ (k : ℕ). take k rows' ++ words (rows_from end r.0)) at_three ∙ ap (λ (x : List ℕ). take (i * 3 + 3) x ++ words (rows_from end r.0)) whole
            ∙ ap (λ (x : List ℕ). x ++ words (rows_from end r.0)) (take_at (take (i * 3) rows ++ three) (drop (i * 3 + 3) rows) (i * 3 + 3) front_length)
            ∙ append_assoc (take (i * 3) rows) three (words (rows_from end r.0)) ∙ ap (λ (x : List ℕ). take (i * 3) rows ++ x) (sym words_are) ∙ w.made;
        later =
            ap (λ (k : ℕ). drop k rows') at_three ∙ ap (drop (i * 3 + 3)) whole
            ∙ drop_at (take (i * 3) rows ++ three) (drop (i * 3 + 3) rows) (i * 3 + 3) front_length
            ∙ sym (drop-drop 3 (i * 3) rows) ∙ ap (drop 3) w.later ∙ drop-drop 3 (i * 3) lent ∙ ap (λ (k : ℕ). drop k lent) (sym at_three);
        same = ap length whole ∙ length-append (take (i * 3) rows ++ three) (drop (i * 3 + 3) rows) ∙ (let f = front_length in omega (arith, w.same));
        inside = a.within;
        here = a.begins_next;
        place = offset_next s at i end w.place a.end_is ∙ ap (offset_of s) (sym (add-one i));
        kept = w.kept;
      }

-- the end: nothing is left
pub writing_end : (s spans : List ℕ) (units : ℕ) (lent rows : List ℕ) (p : Scope) (at i : ℕ) → Writing s spans units lent rows p at i → units ≤ i → rows ≡ words_after (said (rows_from 0) (walk_of_any s)) lent
writing_end s spans units lent rows p at i w h =
    let none : w.rest ≡ [] = nothing w.rest (omega (arith, w.count)) in
    let k : i * 3 ≡ 3 * length (rows_from 0 w.all) = let l = rows_length 0 w.all in omega (arith, w.count, w.total) in
    let front : take (i * 3) rows ≡ words (rows_from 0 w.all) = sym (append-nil (take (i * 3) rows)) ∙ ap (λ (x : List Placed). take (i * 3) rows ++ words (rows_from at x)) (sym none) ∙ w.made in
    sym (take-append-drop (i * 3) rows) ∙ ap (λ (x : List ℕ). x ++ drop (i * 3) rows) front ∙ ap (λ (x : List ℕ). words (rows_from 0 w.all) ++ x) (w.later ∙ ap (λ (x : ℕ). drop x lent) k)
    ∙ ap (λ (x : Walk). words_after (said (rows_from 0) x) lent) (sym w.walked)
  where
    nothing : (ms : List Placed) → length ms ≤ 0 → ms ≡ []
    nothing [] e = refl
    nothing (m ∷ ms) e = absurd (omega arith)

-- three words are stored
pub three_set : (l : List ℕ) (n a b c : ℕ) → n + 3 ≤ length l → set (set (set l n a) (n + 1) b) (n + 2) c ≡ take n l ++ (a ∷ b ∷ c ∷ drop (n + 3) l)
three_set l n a b c h = rw (add-one, add-two) (sets-eq (a ∷ b ∷ c ∷ []) l n h ∙ append_assoc (take n l) (a ∷ b ∷ c ∷ []) (drop (n + 3) l))
