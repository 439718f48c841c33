-- One step of the reader goes on exactly where the grammar does.
use Rattle.std.proofs.Common.{Result, Ok, Err}
use Prim.Native.Nat.{ℕ, ◌≤◌, ◌<◌, ◌+◌}
use mathlib.Core.Path.{◌≡◌, refl, sym, ◌∙◌, ap, subst}
use mathlib.Core.Logic.{◌⊎◌, inl, inr, ◌↔◌}
use mathlib.Core.List.{List, [], ◌∷◌}
use mathlib.Core.Bool.{Bool, true, false, ◌&&◌, not}
use lib.Dec.{eqb, leb, ltb}
use borrow.Author.Tests.{eqb-true, ltb-false, leb-false, le-ltb, lt-leb, not-false}
use native.Mathlib.Omega.{arith}
use Rattle.answers.specs.Answers.{Outcome, done, refused}
use Rattle.bits.specs.Lists.{All}
use Rattle.bits.proofs.TestLaws.{by_test, contrary}
use Rattle.startcode.specs.Kinds.{kind_of}
use Rattle.startcode.specs.declared.Kind.{Kind}
use Rattle.startcode.specs.declared.Kind.TheVariants as kind
use Rattle.bodies.specs.Extensions.{numbered, HasNumber}
use Rattle.layout.specs.Reader.{all_zero}
use Rattle.bodies.specs.Reader.{header_result, extension_result, display_short, display_of}
use Rattle.layout.specs.declared.Fault.{Fault}
use Rattle.layout.specs.declared.Fault.TheVariants as fault
use Rattle.bodies.specs.declared.Scope.TheVariants as scope
use Rattle.bodies.specs.declared.SequenceHeader.{SequenceHeader}
use Rattle.grammar.specs.Grammar.{StreamUnit, IsKind, Nonzero, Extension, IsHeader, IsDisplay, slice_rule}
use Rattle.grammar.specs.Reader.{Step, is_nil, guard, same_kind, choose, by_kind, by, header_step, display_step, head_extension, picture_extension, picture_step, slice_step, ending_step, table, step}
use Rattle.grammar.specs.declared.SliceRule.{SliceRule}
use Rattle.grammar.specs.declared.State.{State}
use Rattle.grammar.specs.declared.State.TheVariants.{Start, Head, Picture as InPicture, Slices, Ended, Closed}
use Rattle.grammar.specs.declared.Reason.{Reason}
use Rattle.grammar.specs.declared.Reason.TheVariants as reason
use Rattle.grammar.proofs.KindLaws.{same_true}
use Rattle.bodies.proofs.NumberLaws.{number_byte, number_one}
use Rattle.grammar.proofs.BodyLaws.{header_good, picture_good, head_good, display_good, display_long}
use Rattle.grammar.proofs.Division.{number_two, number_not_two, Goes, sequence, user, extension, display, first_picture, extra, first_slice, next_slice, next_picture, next_sequence, end, edit, end_edit}

-- ── tests ──

pub not_go : {P : Type 0} {why : Reason} {q : State} → Err why ≡ Ok q → P
not_go e = let z : ◌≡◌ {A = ℕ} 0 1 = cc in absurd (omega arith)

zero_true : (b : List ℕ) → all_zero b ≡ true → All (λ x. x ≡ 0) b
zero_true [] e = tt
zero_true (x ∷ b) e = by_test (eqb x 0) (λ t. (eqb-true x 0 t, zero_true b (rw t at e))) (λ f. contrary _ (rw f at e) refl)

true_zero : (b : List ℕ) → All (λ x. x ≡ 0) b → all_zero b ≡ true
true_zero [] h = refl
true_zero (x ∷ b) h = rw (h.0, true_zero b h.1)

pub nonzero_false : (b : List ℕ) → Nonzero b → all_zero b ≡ false
nonzero_false b n = by_test (all_zero b) (λ t. absurd (n (zero_true b t))) (λ f. f)

pub false_nonzero : (b : List ℕ) → all_zero b ≡ false → Nonzero b
false_nonzero b f h = contrary (all_zero b) (true_zero b h) f

nil_true : {A : Type 0} (l : List A) → is_nil l ≡ true → l ≡ []
nil_true [] e = refl
nil_true (x ∷ l) e = cc

and_fails : (a b : Bool) → a && b ≡ false → a ≡ true → b ≡ false
and_fails a b e t = rw t at e

-- P holds of some element
abbrev pub Some : {A : Type 0} → (A → Type 0) → List A → Type 0
Some P [] = ⊥
Some P (x ∷ xs) = P x ⊎ Some P xs

-- no test holds
abbrev None : List (Bool × Reason) → Type 0
None l = All (λ c. c.0 ≡ false) l

-- a guard is passed exactly where no test holds
passed : (l : List (Bool × Reason)) (s : Step) (q : State) → guard l s ≡ Ok q → None l × (s ≡ Ok q)
passed [] s q e = (tt, e)
passed (c ∷ l) s q e = by_test c.0 (λ t. not_go (rw t at e)) (λ f. let r = passed l s q (rw f at e) in ((f, r.0), r.1))

pass : (l : List (Bool × Reason)) (s : Step) → None l → guard l s ≡ s
pass [] s h = refl
pass (c ∷ l) s h = rw h.0 (pass l s h.1)

-- reading a body goes on exactly where it succeeds
by_go : {A : Type 0} (r : Result A Fault) (next : A → State) (q : State) → by r next ≡ Ok q → (a : A) × (r ≡ Ok a) × (next a ≡ q)
by_go (Ok a) next q e = (a, refl, cc)
by_go (Err fault) next q e = not_go e

goes : {A : Type 0} (r : Result A Fault) (next : A → State) (a : A) → r ≡ Ok a → by r next ≡ Ok (next a)
goes r next a e = rw e

-- the step choose_go
abbrev Took : Kind → List (Kind × Step) → State → Type 0
Took k l q = Some (λ c. (k ≡ c.0) × (c.1 ≡ Ok q)) l

choose_go : (k : Kind) (l : List (Kind × Step)) (q : State) → choose k l ≡ Ok q → Took k l q
choose_go k [] q e = not_go e
choose_go k (c ∷ l) q e = by_test (same_kind k c.0) (λ t. inl (same_true k c.0 t, rw t at e)) (λ f. inr (choose_go k l q (rw f at e)))

-- ── steps and the grammar's rules ──

header_step_lem : (body : List ℕ) (q : State) → header_step body ≡ Ok q → (header : SequenceHeader) × IsHeader body header × (Head (slice_rule header) false ≡ q)
header_step_lem body q e = let r = by_go (header_result body) _ q e in (r.0, (header_good body r.0).0 r.1, r.2)

picture_step_lem : (rule : SliceRule) (body : List ℕ) (q : State) → picture_step rule body ≡ Ok q → Nonzero body × (InPicture rule ≡ q)
picture_step_lem rule body q e = let r = passed ((all_zero body, _) ∷ []) (Ok (InPicture rule)) q e in (false_nonzero body r.0.0, cc r.1)

slice_tests : (rule : SliceRule) (least code : ℕ) →
    ((rule.tested && ltb code least ≡ false) × (rule.tested && leb rule.rows code ≡ false))
    ↔ (rule.tested ≡ true → (least ≤ code) × (code < rule.rows))
slice_tests rule least code = (
  (λ k t. (ltb-false _ _ (and_fails _ _ k.0 t), leb-false _ _ (and_fails _ _ k.1 t))),
  λ k. (
    by_test rule.tested (λ t. rw (t, le-ltb _ _ (k t).0) refl) (λ f. rw f refl),
    by_test rule.tested (λ t. rw (t, lt-leb _ _ (k t).1) refl) (λ f. rw f refl),
  ),
)

slice_step_lem : (rule : SliceRule) (least : ℕ) (u : StreamUnit) (q : State) → slice_step rule least u ≡ Ok q →
    Nonzero u.body × (rule.tested ≡ true → (least ≤ u.code) × (u.code < rule.rows)) × (Slices rule (u.code + 1) ≡ q)
slice_step_lem rule least u q e =
    let r = passed ((all_zero u.body, _) ∷ (rule.tested && ltb u.code least, _) ∷ (rule.tested && leb rule.rows u.code, _) ∷ []) (Ok (Slices rule (u.code + 1))) q e in
    (false_nonzero u.body r.0.0, (slice_tests rule least u.code).0 (r.0.1.0, r.0.1.1.0), cc r.1)

step_slice : (rule : SliceRule) (least : ℕ) (u : StreamUnit) → Nonzero u.body → (rule.tested ≡ true → (least ≤ u.code) × (u.code < rule.rows)) →
    slice_step rule least u ≡ Ok (Slices rule (u.code + 1))
step_slice rule least u n o = let k = (slice_tests rule least u.code).1 o in
    pass ((all_zero u.body, reason.Body fault.Short) ∷ (rule.tested && ltb u.code least, reason.SliceOrder) ∷ (rule.tested && leb rule.rows u.code, reason.SliceRow) ∷ [])
    (Ok (Slices rule (u.code + 1))) (nonzero_false u.body n, (k.0, (k.1, tt)))

ending_step_lem : (body : List ℕ) (next q : State) → ending_step body next ≡ Ok q → (body ≡ []) × (next ≡ q)
ending_step_lem body next q e = let r = passed ((not (is_nil body), _) ∷ []) (Ok next) q e in (nil_true body (not-false _ r.0.0), cc r.1)

display_extension : (body : List ℕ) → HasNumber body 2 → Extension body
display_extension body n = record {
  some_byte = number_byte body 2 n;
  copyright = λ four. let k = number_one body 2 4 n four in absurd (omega arith);
}

-- a unit in a head: opaque or copyright, or a display extension that is the first
head_step : (rule : SliceRule) (d : Bool) (u : StreamUnit) (q : State) → IsKind kind.Extension u → head_extension rule d u.body ≡ Ok q → Goes (Head rule d) u q
head_step rule d u q c e =
    by_test (numbered 2 u.body)
    (λ t.
    let s : display_step rule d u.body ≡ Ok q = rw t at e in
    let r = passed ((display_short u.body, _) ∷ (d, _) ∷ []) (by (display_of u.body) (λ x. Head rule true)) q s in
    let w = by_go (display_of u.body) (λ x. Head rule true) q r.1 in
    let n = (number_two u.body).0 t in
    subst (λ d. Goes (Head rule d) u q) (sym r.0.1.0)
    (subst (Goes (Head rule false) u) w.2 (display c (display_extension u.body n) n ((display_good u.body).0 (w.0, w.1)))))
    (λ f.
    let s : by (extension_result scope.Head u.body) (λ x. Head rule d) ≡ Ok q = rw f at e in
    let w = by_go (extension_result scope.Head u.body) (λ x. Head rule d) q s in
    subst (Goes (Head rule d) u) w.2 (extension c ((head_good u.body f).0 (w.0, w.1)) ((number_not_two u.body).0 f)))

picture_extra : (rule : SliceRule) (u : StreamUnit) (q : State) → IsKind kind.Extension u → picture_extension rule u.body ≡ Ok q → Goes (InPicture rule) u q
picture_extra rule u q c e =
    let w = by_go (extension_result scope.Picture u.body) (λ x. InPicture rule) q e in
    subst (Goes (InPicture rule) u) w.2 (extra (inr (c, (picture_good u.body).0 (w.0, w.1))))

-- ── from a step to the grammar ──

-- a unit of kind k, by the kind of the entry that is taken
module _ (k : Kind) (u : StreamUnit) (is : IsKind k u) where
  of : {j : Kind} → k ≡ j → IsKind j u
  of e = is ∙ ap done e

  took_sound : (q q' : State) → Took k (table q u) q' → Goes q u q'
  took_sound Start q (inl e) = let r = header_step_lem u.body q e.1 in subst (Goes Start u) r.2 (sequence (of e.0) r.1)
  took_sound Start q (inr e) = elim e [ ]
  took_sound (Head h d) q (inl e) = let s : Head h d ≡ q = cc e.1 in subst (Goes (Head h d) u) s (user (of e.0))
  took_sound (Head h d) q (inr (inl e)) = head_step h d u q (of e.0) e.1
  took_sound (Head h d) q (inr (inr (inl e))) = let r = picture_step_lem h u.body q e.1 in subst (Goes (Head h d) u) r.1 (first_picture (of e.0) r.0)
  took_sound (Head h d) q (inr (inr (inr e))) = elim e [ ]
  took_sound (InPicture h) q (inl e) = let r = slice_step_lem h 0 u q e.1 in subst (Goes (InPicture h) u) r.2 (first_slice (of e.0, r.0) r.1)
  took_sound (InPicture h) q (inr (inl e)) = let s : InPicture h ≡ q = cc e.1 in subst (Goes (InPicture h) u) s (extra (inl (of e.0)))
  took_sound (InPicture h) q (inr (inr (inl e))) = picture_extra h u q (of e.0) e.1
  took_sound (InPicture h) q (inr (inr (inr e))) = elim e [ ]
  took_sound (Slices h n) q (inl e) = let r = slice_step_lem h n u q e.1 in subst (Goes (Slices h n) u) r.2 (next_slice (of e.0, r.0) r.1)
  took_sound (Slices h n) q (inr (inl e)) = let r = picture_step_lem h u.body q e.1 in subst (Goes (Slices h n) u) r.1 (next_picture (inl (of e.0)) r.0)
  took_sound (Slices h n) q (inr (inr (inl e))) = let r = picture_step_lem h u.body q e.1 in subst (Goes (Slices h n) u) r.1 (next_picture (inr (of e.0)) r.0)
  took_sound (Slices h n) q (inr (inr (inr (inl e)))) = let r = header_step_lem u.body q e.1 in subst (Goes (Slices h n) u) r.2 (next_sequence (of e.0) r.1)
  took_sound (Slices h n) q (inr (inr (inr (inr (inl e))))) = let r = ending_step_lem u.body Ended q e.1 in subst (Goes (Slices h n) u) r.1 (end (of e.0) r.0)
  took_sound (Slices h n) q (inr (inr (inr (inr (inr (inl e)))))) = let r = ending_step_lem u.body Closed q e.1 in subst (Goes (Slices h n) u) r.1 (edit (of e.0) r.0)
  took_sound (Slices h n) q (inr (inr (inr (inr (inr (inr e)))))) = elim e [ ]
  took_sound Ended q (inl e) = let r = ending_step_lem u.body Closed q e.1 in subst (Goes Ended u) r.1 (end_edit (of e.0) r.0)
  took_sound Ended q (inr e) = elim e [ ]
  took_sound Closed q e = elim e [ ]

pub step_sound : (q : State) (u : StreamUnit) (q' : State) → step q u ≡ Ok q' → Goes q u q'
unfolding step
step_sound q u q' e = by_outcome (kind_of u.code) refl e
  where
    by_outcome : (o : Outcome Kind) → kind_of u.code ≡ o → by_kind o (λ k. choose k (table q u)) ≡ Ok q' → Goes q u q'
    by_outcome (done k) is e = took_sound k u is q q' (choose_go k (table q u) q' e)
    by_outcome (refused n carried) is e = not_go e

-- ── from the grammar to a step ──

step_header : (body : List ℕ) (header : SequenceHeader) → IsHeader body header → header_step body ≡ Ok (Head (slice_rule header) false)
step_header body header k = goes (header_result body) _ header ((header_good body header).1 k)

step_picture : (rule : SliceRule) (body : List ℕ) → Nonzero body → picture_step rule body ≡ Ok (InPicture rule)
step_picture rule body n = pass ((all_zero body, _) ∷ []) (Ok (InPicture rule)) (nonzero_false body n, tt)

step_display : (rule : SliceRule) (body : List ℕ) → HasNumber body 2 → IsDisplay body → head_extension rule false body ≡ Ok (Head rule true)
step_display rule body n d =
    let x = (display_good body).1 d in
    rw ((number_two body).1 n, display_long body x.0 x.1) (goes (display_of body) (λ y. Head rule true) x.0 x.1)

step_extension : (rule : SliceRule) (d : Bool) (body : List ℕ) → Extension body → ¬ HasNumber body 2 → head_extension rule d body ≡ Ok (Head rule d)
step_extension rule d body k n =
    let f = (number_not_two body).1 n in
    let x = (head_good body f).1 k in
    rw f (goes (extension_result scope.Head body) (λ y. Head rule d) x.0 x.1)

pub step_complete : {u : StreamUnit} {q q' : State} → Goes q u q' → step q u ≡ Ok q'
unfolding step
step_complete (sequence {u} {header} c k) = rw c (step_header u.body header k)
step_complete (user {u} c) = rw c refl
step_complete (extension {u} {h} {d} c k n) = rw c (step_extension h d u.body k n)
step_complete (display {u} {h} c k n d) = rw c (step_display h u.body n d)
step_complete (first_picture {u} {h} c k) = rw c (step_picture h u.body k)
step_complete (extra {u} {h} (inl c)) = rw c refl
step_complete (extra {u} {h} (inr k)) = let x = (picture_good u.body).1 k.1 in rw k.0 (goes (extension_result scope.Picture u.body) (λ y. InPicture h) x.0 x.1)
step_complete (first_slice {u} {h} k o) = rw k.0 (step_slice h 0 u k.1 o)
step_complete (next_slice {u} {h} {n} k o) = rw k.0 (step_slice h n u k.1 o)
step_complete (next_picture {u} {h} (inl c) k) = rw c (step_picture h u.body k)
step_complete (next_picture {u} {h} (inr c) k) = rw c (step_picture h u.body k)
step_complete (next_sequence {u} {header = header} c k) = rw c (step_header u.body header k)
step_complete (end {u} c k) = rw (c, k) refl
step_complete (edit {u} c k) = rw (c, k) refl
step_complete (end_edit {u} c k) = rw (c, k) refl
