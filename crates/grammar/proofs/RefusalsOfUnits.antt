-- The reader stops at a unit exactly where the unit breaks a rule, and for the first that it breaks.
use Rattle.std.proofs.Common.{Result, Ok, Err}
use Prim.Native.Nat.{ℕ}
use mathlib.Core.Path.{◌≡◌, refl, sym, ◌∙◌, ap, subst}
use mathlib.Core.Logic.{◌⊎◌, inl, inr, ◌↔◌}
use mathlib.Core.List.{List, [], ◌∷◌, ◌++◌, append_assoc}
use mathlib.Core.Bool.{Bool, true, false, ◌&&◌}
use native.Mathlib.Omega.{arith}
use lib.Dec.{leb, ltb}
use borrow.Author.Tests.{ltb-true, leb-true, lt-ltb, le-leb}
use Rattle.answers.specs.Answers.{done}
use Rattle.answers.proofs.ResultLaws.{not_err, ok_same}
use Rattle.bits.specs.Lists.{All}
use Rattle.bits.proofs.ListLaws.{absent, all_append}
use Rattle.std.proofs.lemmas.Bool.{and_parts}
use Rattle.bits.proofs.TestLaws.{by_test, contrary}
use Rattle.startcode.specs.Kinds.{kind_of}
use Rattle.startcode.specs.declared.Kind.{Kind}
use Rattle.startcode.specs.declared.Kind.TheVariants as kind
use Rattle.bodies.specs.Extensions.{numbered, HasNumber}
use Rattle.layout.specs.Reader.{all_zero}
use Rattle.bodies.specs.Reader.{header_result, extension_result, display_short, display_of}
use Rattle.layout.specs.Breaks.{Breaks as BreaksLayout}
use Rattle.bodies.specs.Breaks.{BreaksDisplay, BreaksExtension}
use Rattle.layout.specs.declared.Fault.{Fault}
use Rattle.layout.specs.declared.Fault.TheVariants as fault
use Rattle.layout.specs.declared.Layout.TheVariants.{Header}
use Rattle.bodies.specs.declared.Scope.TheVariants as scope
use Rattle.bodies.specs.declared.SequenceHeader.{SequenceHeader}
use Rattle.bodies.proofs.BreakLaws.{short_iff, long_iff, header_bad, display_bad, extension_bad}
use Rattle.grammar.specs.Lists.{AtMostOne}
use Rattle.grammar.specs.Grammar.{StreamUnit, IsKind, Alone, Nonzero, DisplayUnit, slice_rule}
use Rattle.grammar.specs.Reader.{Step, guard, by, same_kind, choose, header_step, head_extension, picture_extension, picture_step, slice_step, ending_step, table, step}
use Rattle.grammar.specs.Refusals.{BeginsSentence, InHead, AfterPicture, InGroup, OfBody, NoNonzero, NotEmpty, NotGreater, OutOfOrder, order, row, BadSlice, BadHeadExtension, short, twice, fields, other, BreaksBody, Breaks, unknown, out_of_place, in_place}
use Rattle.grammar.specs.declared.SliceRule.{SliceRule}
use Rattle.grammar.specs.declared.State.{State}
use Rattle.grammar.specs.declared.State.TheVariants.{Start, Head, Picture as InPicture, Slices, Ended, Closed}
use Rattle.grammar.specs.declared.Reason.{Reason}
use Rattle.grammar.specs.declared.Reason.TheVariants as reason
use Rattle.grammar.proofs.KindLaws.{same_true, true_same, apart, kind_or_not}
use Rattle.grammar.proofs.BodyLaws.{header_good}
use Rattle.grammar.proofs.Division.{number_two, number_not_two}
use Rattle.grammar.proofs.StepLaws.{Some, nonzero_false, false_nonzero, step_sound, step_complete}
use Rattle.grammar.proofs.Sentences.{At, more, begins_iff, sentence_left, last_same, Ruled, Least, HeadSays, Says, says}
use Rattle.grammar.proofs.ShapeLaws.{kinds_in, Has, has_in_place, left_goes, in_place_has}

-- ── one rule at a time ──

same_stop : (m n : Reason) → (◌≡◌ {A = Step} (Err m) (Err n)) ↔ (n ≡ m)
same_stop m n = ((λ e. cc), λ e. cc)

-- a body that is refused by its result, where what the result refuses is stated
by_iff : {A : Type 0} (r : Result A Fault) (next : A → State) (Broken : Fault → Type 0) → ((f : Fault) → (r ≡ Err f) ↔ Broken f) → (why : Reason) → (by r next ≡ Err why) ↔ OfBody Broken why
by_iff (Ok a) next Broken iff why = (not_err, λ b. not_err ((iff b.0).1 b.1))
by_iff (Err f) next Broken iff why = ((λ e. (f, (iff f).0 refl, cc)), λ b. let e = (iff b.0).1 b.1 in let m = b.2 in cc)

zero_nonzero : (body : List ℕ) → all_zero body ≡ true → ¬ Nonzero body
zero_nonzero body t n = contrary (all_zero body) t (nonzero_false body n)

nonzero_zero : (body : List ℕ) → ¬ Nonzero body → all_zero body ≡ true
nonzero_zero body n = by_test (all_zero body) (λ t. t) (λ f. absurd (n (false_nonzero body f)))

picture_iff : (rule : SliceRule) (body : List ℕ) (why : Reason) → (picture_step rule body ≡ Err why) ↔ NoNonzero body why
picture_iff rule body why = (
  (λ e. by_test (all_zero body) (λ t. (zero_nonzero body t, (same_stop (reason.Body fault.Short) why).0 (rw t at e))) (λ f. not_err (rw f at e))),
  λ k. rw (nonzero_zero body k.0) ((same_stop (reason.Body fault.Short) why).1 k.1),
)

ending_iff : (body : List ℕ) (next : State) (why : Reason) → (ending_step body next ≡ Err why) ↔ NotEmpty body why
ending_iff [] next why = (not_err, λ k. absurd (k.0 refl))
ending_iff (x ∷ body) next why = ((λ e. ((λ f. let z : ◌≡◌ {A = ℕ} 0 1 = cc in absurd (omega arith)), (same_stop (reason.Body fault.Stuffing) why).0 e)), λ k. (same_stop (reason.Body fault.Stuffing) why).1 k.1)

-- ── slices ──

same_header : {us : List StreamUnit} {h k : SequenceHeader} → InGroup us h → InGroup us k → h ≡ k
same_header {us} {h} {k} a b =
    let e = (last_same a.last b.last).0 in
    let x = (header_good a.head.body h).1 a.body in
    let y = (header_good b.head.body k).1 b.body in
    let z : header_result a.head.body ≡ header_result b.head.body = ap (λ (u : StreamUnit). header_result u.body) e in
    ok_same (sym x ∙ z ∙ y)

module _ (us : List StreamUnit) (rule : SliceRule) (least : ℕ) (ruled : Ruled us rule) (bound : Least us least) (u : StreamUnit) (why : Reason) where
  bad_slice : Nonzero u.body → rule.tested ≡ true → OutOfOrder us u rule.rows why → BadSlice us u why
  bad_slice k t b = record {
    header = ruled.header;
    group = ruled.group;
    nonzero = k;
    tested = sym (ap (λ (r : SliceRule). r.tested) ruled.is) ∙ t;
    breaks = subst (λ (r : SliceRule). OutOfOrder us u r.rows why) ruled.is b;
  }

  slice_stops : slice_step rule least u ≡ Err why → NoNonzero u.body why ⊎ BadSlice us u why
  slice_stops e =
      by_test (all_zero u.body)
      (λ z. inl (zero_nonzero u.body z, (same_stop (reason.Body fault.Short) why).0 (rw z at e)))
      (λ nz.
      by_test (rule.tested && ltb u.code least)
      (λ t. let a = and_parts _ _ t in inr (bad_slice (false_nonzero u.body nz) a.0 (order ((bound u).1 (ltb-true _ _ a.1)) ((same_stop reason.SliceOrder why).0 (rw (nz, t) at e)))))
      (λ f.
      by_test (rule.tested && leb rule.rows u.code)
      (λ t. let a = and_parts _ _ t in inr (bad_slice (false_nonzero u.body nz) a.0 (row (in_order a.0 f) (leb-true _ _ a.1) ((same_stop reason.SliceRow why).0 (rw (nz, f, t) at e)))))
      (λ g. not_err (rw (nz, f, g) at e))))
    where
      in_order : rule.tested ≡ true → rule.tested && ltb u.code least ≡ false → ¬ NotGreater us u
      in_order t f g = contrary (ltb u.code least) (lt-ltb u.code least ((bound u).0 g)) (rw t at f)

  stops_slice : NoNonzero u.body why ⊎ BadSlice us u why → slice_step rule least u ≡ Err why
  stops_slice (inl k) = rw (nonzero_zero u.body k.0) ((same_stop (reason.Body fault.Short) why).1 k.1)
  stops_slice (inr b) =
      let h : b.header ≡ ruled.header = same_header b.group ruled.group in
      let i : rule ≡ slice_rule b.header = ruled.is ∙ ap slice_rule (sym h) in
      let t : rule.tested ≡ true = ap (λ (r : SliceRule). r.tested) i ∙ b.tested in
      rw (nonzero_false u.body b.nonzero, t) (by_order _ (subst (λ (r : SliceRule). OutOfOrder us u r.rows why) (sym i) b.breaks))
    where
      below : NotGreater us u → ltb u.code least ≡ true
      below g = lt-ltb u.code least ((bound u).0 g)

      by_order : (s : Step) → OutOfOrder us u rule.rows why → guard ((ltb u.code least, reason.SliceOrder) ∷ (leb rule.rows u.code, reason.SliceRow) ∷ []) s ≡ Err why
      by_order s (order g w) = rw (below g) ((same_stop reason.SliceOrder why).1 w)
      by_order s (row n l w) = rw (by_test (ltb u.code least) (λ t. absurd (n ((bound u).1 (ltb-true _ _ t)))) (λ f. f), le-leb rule.rows u.code l) ((same_stop reason.SliceRow why).1 w)

  slice_iff : (slice_step rule least u ≡ Err why) ↔ BreaksBody kind.Slice us u why
  slice_iff = (slice_stops, stops_slice)

-- ── extensions ──

not_both : {P : Type 0} {us extras : List StreamUnit} → InHead us extras → AfterPicture us → P
not_both {us = us} h p =
    let e = (last_same h.1 p.2).0 in
    let c : kind_of p.0.code ≡ done kind.SequenceHeader = ap (λ (u : StreamUnit). kind_of u.code) (sym e) ∙ h.2 in
    elim p.3 [ inl i ↦ apart kind.IPicture kind.SequenceHeader refl i c | inr b ↦ apart kind.PBPicture kind.SequenceHeader refl b c ]

picture_extension_iff : (us : List StreamUnit) (rule : SliceRule) → AfterPicture us → (u : StreamUnit) (why : Reason) → (picture_extension rule u.body ≡ Err why) ↔ BreaksBody kind.Extension us u why
picture_extension_iff us rule a u why = let k = by_iff (extension_result scope.Picture u.body) (λ x. InPicture rule) (BreaksExtension scope.Picture u.body) (extension_bad scope.Picture u.body) why in
    ((λ e. inr (a, k.0 e)), λ b. elim b [ inl h ↦ not_both h.1 a | inr f ↦ k.1 f.1 ])

-- one more is at most one exactly where there was none
one_more : (P : StreamUnit → Type 0) (l : List StreamUnit) (u : StreamUnit) → P u → AtMostOne P (l ++ u ∷ []) ↔ (¬ Some P l)
one_more P [] u p = ((λ o s. s), λ n. ((λ q. tt), tt))
one_more P (x ∷ l) u p = let r = one_more P l u p in (
  (λ o s. elim s [ inl q ↦ absent P l u [] (o.0 q) p | inr t ↦ r.0 o.1 t ]),
  λ n. ((λ q. absurd (n (inl q))), r.1 (λ t. n (inr t))),
)

module _ (rule : SliceRule) (d : Bool) (extras : List StreamUnit) (shown : (d ≡ true) ↔ Some DisplayUnit extras) (u : StreamUnit) (is : IsKind kind.Extension u) (why : Reason) where
  -- no display extension before this one
  first : HasNumber u.body 2 → AtMostOne DisplayUnit (extras ++ u ∷ []) ↔ (d ≡ false)
  first two = let r = one_more DisplayUnit extras u (is, two) in (
    (λ o. by_test d (λ t. absurd (r.0 o (shown.0 t))) (λ f. f)),
    λ f. r.1 (λ s. contrary d (shown.1 s) f),
  )

  shown_iff : (by (display_of u.body) (λ x. Head rule true) ≡ Err why) ↔ OfBody (BreaksDisplay u.body) why
  shown_iff = by_iff (display_of u.body) (λ x. Head rule true) (BreaksDisplay u.body) (display_bad u.body) why

  other_iff : (by (extension_result scope.Head u.body) (λ x. Head rule d) ≡ Err why) ↔ OfBody (BreaksExtension scope.Head u.body) why
  other_iff = by_iff (extension_result scope.Head u.body) (λ x. Head rule d) (BreaksExtension scope.Head u.body) (extension_bad scope.Head u.body) why

  head_stops : head_extension rule d u.body ≡ Err why → BadHeadExtension extras u why
  head_stops e =
      by_test (numbered 2 u.body)
      (λ t.
      let two = (number_two u.body).0 t in
      by_test (display_short u.body)
      (λ s. short two ((short_iff u.body).0 s) ((same_stop (reason.Body fault.Short) why).0 (rw (t, s) at e)))
      (λ l.
      by_test d
      (λ g. twice two ((long_iff u.body).0 l) (λ o. contrary d g ((first two).0 o)) ((same_stop reason.Twice why).0 (rw (t, l, g) at e)))
      (λ f. fields two ((long_iff u.body).0 l) ((first two).1 f) (shown_iff.0 (rw (t, l, f) at e)))))
      (λ f. other ((number_not_two u.body).0 f) (other_iff.0 (rw f at e)))

  stops_head : BadHeadExtension extras u why → head_extension rule d u.body ≡ Err why
  stops_head (short two s e) = rw ((number_two u.body).1 two, (short_iff u.body).1 s) ((same_stop (reason.Body fault.Short) why).1 e)
  stops_head (twice two l o e) = by_test d (λ t. rw ((number_two u.body).1 two, (long_iff u.body).1 l, t) ((same_stop reason.Twice why).1 e)) (λ f. absurd (o ((first two).1 f)))
  stops_head (fields two l o k) = rw ((number_two u.body).1 two, (long_iff u.body).1 l, (first two).0 o) (shown_iff.1 k)
  stops_head (other two k) = rw ((number_not_two u.body).1 two) (other_iff.1 k)

head_extension_iff : (us : List StreamUnit) (rule : SliceRule) (d : Bool) → HeadSays us d → (u : StreamUnit) → IsKind kind.Extension u → (why : Reason) → (head_extension rule d u.body ≡ Err why) ↔ BreaksBody kind.Extension us u why
head_extension_iff us rule d h u c why = (
  (λ e. inl (h.0, h.1, head_stops rule d h.0 h.2 u c why e)),
  λ b. elim b [
    | inl k ↦ let e = (last_same k.1.1 h.1.1).1 in stops_head rule d h.0 h.2 u c why (rw e at k.2)
    | inr f ↦ not_both h.1 f.0
  ],
)

-- ── the table ──

-- an entry of the unit's kind stops exactly where a unit of that kind breaks a rule
abbrev Entry : List StreamUnit → StreamUnit → Kind × Step → Type 0
Entry us u e = IsKind e.0 u → (why : Reason) → (e.1 ≡ Err why) ↔ BreaksBody e.0 us u why

module _ (us : List StreamUnit) (u : StreamUnit) where
  header_entry : Entry us u (kind.SequenceHeader, header_step u.body)
  header_entry is = by_iff (header_result u.body) (λ header. Head (slice_rule header) false) (BreaksLayout Header u.body) (header_bad u.body)

  user_entry : (q : State) → Entry us u (kind.UserData, Ok q)
  user_entry q is why = (not_err, λ b. absurd b)

  slice_entry : (rule : SliceRule) (least : ℕ) → Ruled us rule → Least us least → Entry us u (kind.Slice, slice_step rule least u)
  slice_entry rule least r l is = slice_iff us rule least r l u

  entries : (q : State) → Says us q → All (Entry us u) (table q u)
  entries Start s = (header_entry, tt)
  entries (Head rule d) s = (user_entry (Head rule d), (head_extension_iff us rule d s.1 u, ((λ is. picture_iff rule u.body), tt)))
  entries (InPicture rule) s = (slice_entry rule 0 s.0 s.2, (user_entry (InPicture rule), ((λ is. picture_extension_iff us rule s.1 u), tt)))
  entries (Slices rule n) s = (
    slice_entry rule n s.0 s.1,
    ((λ is. picture_iff rule u.body), ((λ is. picture_iff rule u.body), (header_entry, ((λ is. ending_iff u.body Ended), ((λ is. ending_iff u.body Closed), tt))))),
  )
  entries Ended s = ((λ is. ending_iff u.body Closed), tt)
  entries Closed s = tt

-- ── the step ──

module _ (us : List StreamUnit) (u : StreamUnit) (k : Kind) (is : IsKind k u) (why : Reason) where
  -- the table stops by the entry of the kind, or because it has none
  chosen_stops : (l : List (Kind × Step)) → All (Entry us u) l → choose k l ≡ Err why → (Has k (kinds_in l) × BreaksBody k us u why) ⊎ ((¬ Has k (kinds_in l)) × (why ≡ reason.OutOfPlace))
  chosen_stops [] a e = inr ((λ h. h), (same_stop reason.OutOfPlace why).0 e)
  chosen_stops (x ∷ l) a e =
      by_test (same_kind k x.0)
      (λ t.
      let i = same_true k x.0 t in
      inl (inl i, subst (λ (j : Kind). BreaksBody j us u why) (sym i) ((a.0 (is ∙ ap done i) why).0 (rw t at e))))
      (λ f. elim (chosen_stops l a.1 (rw f at e)) [
        | inl h ↦ inl (inr h.0, h.1)
        | inr n ↦ inr ((λ h. elim h [ inl i ↦ contrary (same_kind k x.0) (true_same k x.0 i) f | inr h ↦ n.0 h ]), n.1)
      ])

  none_stops : (l : List (Kind × Step)) → ¬ Has k (kinds_in l) → choose k l ≡ Err reason.OutOfPlace
  none_stops [] n = refl
  none_stops (x ∷ l) n = by_test (same_kind k x.0) (λ t. absurd (n (inl (same_true k x.0 t)))) (λ f. rw f (none_stops l (λ h. n (inr h))))

  one_stops : (l : List (Kind × Step)) → All (Entry us u) l → Has k (kinds_in l) → BreaksBody k us u why → choose k l ≡ Err why
  one_stops [] a h b = elim h [ ]
  one_stops (x ∷ l) a h b =
      by_test (same_kind k x.0)
      (λ t. let i = same_true k x.0 t in rw t ((a.0 (is ∙ ap done i) why).1 (subst (λ (j : Kind). BreaksBody j us u why) i b)))
      (λ f. rw f (elim h [ inl i ↦ contrary (same_kind k x.0) (true_same k x.0 i) f | inr h ↦ one_stops l a.1 h b ]))

module _ {us : List StreamUnit} {q : State} (at : At us q) (u : StreamUnit) (why : Reason) where
  step_breaks : step q u ≡ Err why → Breaks us u why
  unfolding step
  step_breaks e = elim (kind_or_not u.code) [
    | inr r ↦ unknown r ((same_stop reason.Unknown why).0 (rw r at e))
    | inl k ↦ elim (chosen_stops us u k.0 k.1 why (table q u) (entries us u q (says at)) (rw k.1 at e)) [
      | inl s ↦ in_place k.0 k.1 (has_in_place at u k.0 k.1 s.0) s.1
      | inr s ↦ out_of_place k.0 k.1 (λ p. s.0 (in_place_has at u k.0 k.1 p)) s.1
    ]
  ]

  breaks_step : Breaks us u why → step q u ≡ Err why
  unfolding step
  breaks_step (unknown r e) = rw r ((same_stop reason.Unknown why).1 e)
  breaks_step (out_of_place k is p e) = rw is (none_stops us u k is why (table q u) (λ h. p (has_in_place at u k is h)) ∙ (same_stop reason.OutOfPlace why).1 e)
  breaks_step (in_place k is p b) = rw is (one_stops us u k is why (table q u) (entries us u q (says at)) (in_place_has at u k is p) b)

pub step_iff : {us : List StreamUnit} {q : State} → At us q → (u : StreamUnit) (why : Reason) → (step q u ≡ Err why) ↔ Breaks us u why
step_iff at u why = (step_breaks at u why, breaks_step at u why)

-- ── the first unit that breaks a rule ──

-- after units that obey, a unit breaks a rule exactly where no sentence goes on with it
pub breaks_iff : (us : List StreamUnit) (u : StreamUnit) → BeginsSentence us → Alone u → ((why : Reason) × Breaks us u why) ↔ (¬ BeginsSentence (us ++ u ∷ []))
breaks_iff us u b k = let a = (begins_iff us).1 b in (
  (λ h s.
      let g = left_goes us u s.0 (sentence_left us (u ∷ s.0) (rw append_assoc at s.1)) in
      not_err (sym (step_complete g.2.1) ∙ breaks_step g.1 u h.0 h.1)),
  λ n. by_step a.0.0 a.0.1 a.1 (step a.0.0 u) refl n,
)
  where
    by_step : (q : State) → At us q → All Alone us → (s : Step) → step q u ≡ s → ¬ BeginsSentence (us ++ u ∷ []) → (why : Reason) × Breaks us u why
    by_step q at l (Err why) e h = (why, step_breaks at u why e)
    by_step q at l (Ok q') e h = absurd (h ((begins_iff (us ++ u ∷ [])).0 ((q', more at (step_sound q u q' e)), all_append Alone us (u ∷ []) l (k, tt))))

-- and for one reason alone
pub breaks_one : (us : List StreamUnit) (u : StreamUnit) (m n : Reason) → BeginsSentence us → Breaks us u m → Breaks us u n → m ≡ n
breaks_one us u m n b x y = let a = (begins_iff us).1 b in let e : Err m ≡ Err n = sym (breaks_step a.0.1 u m x) ∙ breaks_step a.0.1 u n y in cc
