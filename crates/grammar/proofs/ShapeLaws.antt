-- A unit is in place exactly where the state's table has its kind.
use Rattle.std.proofs.Common.{Ok}
use Prim.Native.Nat.{ℕ}
use mathlib.Core.Path.{◌≡◌, refl, sym, ◌∙◌, ap, subst}
use mathlib.Core.Logic.{inl, inr, ◌↔◌}
use mathlib.Core.List.{List, [], ◌∷◌, ◌++◌, map, map-append, append-nil}
use mathlib.Core.Bool.{true, false}
use native.Mathlib.Omega.{arith}
use Rattle.answers.specs.Answers.{Outcome, done, refused}
use Rattle.bits.specs.Bits.{bits_in, bits_of}
use Rattle.bits.specs.Lists.{All}
use Rattle.bits.proofs.ListLaws.{all_append}
use Rattle.bits.proofs.TestLaws.{by_test}
use Rattle.startcode.specs.Kinds.{kind_of}
use Rattle.startcode.specs.Prefix.{begins}
use Rattle.startcode.specs.declared.Kind.{Kind}
use Rattle.startcode.specs.declared.Kind.TheVariants as kind
use Rattle.bodies.specs.Extensions.{numbered, HasNumber}
use Rattle.grammar.specs.Grammar.{StreamUnit, IsKind, Alone, Extension, slice_rule}
use Rattle.grammar.specs.Reader.{Step, cut, same_kind, choose, table, step, final}
use Rattle.grammar.specs.Rows.{Placed}
use Rattle.grammar.specs.Refusals.{IsSentence, kinds_of, InPlace}
use Rattle.grammar.specs.declared.SliceRule.{SliceRule}
use Rattle.grammar.specs.declared.State.{State}
use Rattle.grammar.specs.declared.State.TheVariants.{Start, Head, Picture as InPicture, Slices, Ended, Closed}
use Rattle.grammar.proofs.KindLaws.{same_true, kind_or_not}
use Rattle.bodies.proofs.NumberLaws.{number_one}
use Rattle.grammar.proofs.Division.{Goes, sequence, user, extension, display, first_picture, extra, first_slice, next_slice, next_picture, next_sequence, end, edit, end_edit, Accepts}
use Rattle.grammar.proofs.StepLaws.{Some, not_go, step_complete}
use Rattle.grammar.proofs.Sentences.{At, start, more, Left, sentence_left, sentence_from, begins_iff, plain_header, plain_header_lem, plain_unit, plain_alone, alone_cut, empty, one_byte, one_nonzero}

-- ── the state with no header and no slice numbers ──

abbrev plain_rule : SliceRule
plain_rule = slice_rule plain_header

abbrev plain : State → State
plain Start = Start
plain (Head rule d) = Head plain_rule false
plain (InPicture rule) = InPicture plain_rule
plain (Slices rule n) = Slices plain_rule 1
plain Ended = Ended
plain Closed = Closed

-- what follows a unit of this kind
abbrev onward : Outcome Kind → State → State
onward (done kind.Slice) q = Slices plain_rule 1
onward (done kind.SequenceHeader) q = Head plain_rule false
onward (done kind.SequenceEnd) q = Ended
onward (done kind.UserData) q = q
onward (done kind.IPicture) q = InPicture plain_rule
onward (done kind.Extension) q = q
onward (done kind.PBPicture) q = InPicture plain_rule
onward (done kind.EditCode) q = Closed
onward (refused n carried) q = q

goes_onward : {u : StreamUnit} {q q' : State} → Goes q u q' → plain q' ≡ onward (kind_of u.code) (plain q)
goes_onward (sequence c k) = rw c refl
goes_onward (user c) = rw c refl
goes_onward (extension c k n) = rw c refl
goes_onward (display c k n d) = rw c refl
goes_onward (first_picture c k) = rw c refl
goes_onward (extra (inl c)) = rw c refl
goes_onward (extra (inr k)) = rw k.0 refl
goes_onward (first_slice k o) = rw k.0 refl
goes_onward (next_slice k o) = rw k.0 refl
goes_onward (next_picture (inl c) k) = rw c refl
goes_onward (next_picture (inr c) k) = rw c refl
goes_onward (next_sequence c k) = rw c refl
goes_onward (end c k) = rw c refl
goes_onward (edit c k) = rw c refl
goes_onward (end_edit c k) = rw c refl

stage_from : State → List (Outcome Kind) → State
stage_from q [] = q
stage_from q (k ∷ ks) = stage_from (onward k q) ks

stage_more : (q : State) (ks : List (Outcome Kind)) (k : Outcome Kind) → stage_from q (ks ++ k ∷ []) ≡ onward k (stage_from q ks)
unfolding stage_from
stage_more q [] k = refl
stage_more q (x ∷ ks) k = stage_more (onward x q) ks k

kinds_more : (us : List StreamUnit) (u : StreamUnit) → kinds_of (us ++ u ∷ []) ≡ kinds_of us ++ kind_of u.code ∷ []
kinds_more us u = map-append (λ u. kind_of u.code) us (u ∷ [])

-- the kinds alone lead to a state but for its header and its slice numbers
stage : {us : List StreamUnit} {q : State} → At us q → plain q ≡ stage_from Start (kinds_of us)
unfolding stage_from
stage start = refl
stage (more {us} {q} {q'} {u} at g) = goes_onward g ∙ ap (onward (kind_of u.code)) (stage at) ∙ sym (ap (stage_from Start) (kinds_more us u) ∙ stage_more Start (kinds_of us) (kind_of u.code))

-- ── the kinds of a table ──

abbrev pub kinds_in : List (Kind × Step) → List Kind
kinds_in l = map (λ e. e.0) l

-- this kind is one of these
abbrev pub Has : Kind → List Kind → Type 0
Has k ks = Some (λ j. k ≡ j) ks

abbrev kinds_at : State → List Kind
kinds_at q = kinds_in (table q (one_byte 0))

kinds_are : (q : State) (u : StreamUnit) → kinds_in (table q u) ≡ kinds_at (plain q)
kinds_are Start u = refl
kinds_are (Head rule d) u = refl
kinds_are (InPicture rule) u = refl
kinds_are (Slices rule n) u = refl
kinds_are Ended u = refl
kinds_are Closed u = refl

choose_has : (k : Kind) (l : List (Kind × Step)) (q : State) → choose k l ≡ Ok q → Has k (kinds_in l)
choose_has k [] q e = let z : ◌≡◌ {A = ℕ} 0 1 = cc in absurd (omega arith)
choose_has k (x ∷ l) q e = by_test (same_kind k x.0) (λ t. inl (same_true k x.0 t)) (λ f. inr (choose_has k l q (rw f at e)))

-- where the grammar goes on, the unit has a kind and the table has it
goes_kind : {q q' : State} {u : StreamUnit} → Goes q u q' → (k : Kind) × IsKind k u
unfolding step
goes_kind {q} {q'} {u} g = elim (kind_or_not u.code) [
  | inl k ↦ k
  | inr r ↦ let e = step_complete g in not_go (rw r at e)
]

goes_has : {q q' : State} {u : StreamUnit} → Goes q u q' → (k : Kind) → IsKind k u → Has k (kinds_at (plain q))
unfolding step
goes_has {q} {q'} {u} g k is = let e = step_complete g in rw kinds_are at (choose_has k (table q u) q' (rw is at e))

-- ── the table has the kind: the unit is in place ──

-- some unit of the kind goes on from the state
abbrev Room : State → Kind → Type 0
Room q k = (v : StreamUnit) × Goes q v (onward (done k) q) × IsKind k v × Alone v

room_at : (q : State) (k j : Kind) (v : StreamUnit) → Alone v → k ≡ j → IsKind j v → Goes q v (onward (done j) q) → Room q k
room_at q k j v a e is g = (v, subst (λ i. Goes q v (onward (done i) q)) (sym e) g, is ∙ ap done (sym e), a)

-- an opaque extension
opaque_unit : StreamUnit
opaque_unit = record { code = 0xB5; body = 0x10 ∷ [] }

opaque_number_lem : HasNumber opaque_unit.body 1
unfolding opaque_unit numbered bits_of bits_in
opaque_number_lem = record { small = omega arith; bits = refl }

not_number : (n : ℕ) → (1 ≡ n → ⊥) → ¬ HasNumber opaque_unit.body n
not_number n h k = h (number_one opaque_unit.body 1 n opaque_number_lem k)

opaque_extension : Extension opaque_unit.body
unfolding opaque_unit
opaque_extension = record { some_byte = λ e. let z : ◌≡◌ {A = ℕ} 0 1 = cc in omega arith; copyright = λ e. absurd (not_number 4 (omega arith) e) }

untested : {P : Type 0} → plain_rule.tested ≡ true → P
untested t = let z : ◌≡◌ {A = ℕ} 0 1 = cc in absurd (omega arith)

room : (q : State) (k : Kind) → Has k (kinds_at (plain q)) → Room (plain q) k
unfolding kind_of opaque_unit cut begins
room Start k (inl e) = room_at Start k kind.SequenceHeader plain_unit plain_alone e refl (sequence refl plain_header_lem)
room Start k (inr e) = elim e [ ]
room (Head rule d) k (inl e) = room_at (plain (Head rule d)) k kind.UserData (empty 0xB2) (alone_cut (empty 0xB2) refl) e refl (user refl)
room (Head rule d) k (inr (inl e)) = room_at (plain (Head rule d)) k kind.Extension opaque_unit (alone_cut opaque_unit refl) e refl (extension refl opaque_extension (not_number 2 (omega arith)))
room (Head rule d) k (inr (inr (inl e))) = room_at (plain (Head rule d)) k kind.IPicture (one_byte 0xB3) (alone_cut (one_byte 0xB3) refl) e refl (first_picture refl one_nonzero)
room (Head rule d) k (inr (inr (inr e))) = elim e [ ]
room (InPicture rule) k (inl e) = room_at (plain (InPicture rule)) k kind.Slice (one_byte 0) (alone_cut (one_byte 0) refl) e refl (first_slice {u = one_byte 0} (refl, one_nonzero) untested)
room (InPicture rule) k (inr (inl e)) = room_at (plain (InPicture rule)) k kind.UserData (empty 0xB2) (alone_cut (empty 0xB2) refl) e refl (extra (inl refl))
room (InPicture rule) k (inr (inr (inl e))) = room_at (plain (InPicture rule)) k kind.Extension opaque_unit (alone_cut opaque_unit refl) e refl (extra (inr (refl, opaque_extension)))
room (InPicture rule) k (inr (inr (inr e))) = elim e [ ]
room (Slices rule n) k (inl e) = room_at (plain (Slices rule n)) k kind.Slice (one_byte 0) (alone_cut (one_byte 0) refl) e refl (next_slice {u = one_byte 0} (refl, one_nonzero) untested)
room (Slices rule n) k (inr (inl e)) = room_at (plain (Slices rule n)) k kind.IPicture (one_byte 0xB3) (alone_cut (one_byte 0xB3) refl) e refl (next_picture (inl refl) one_nonzero)
room (Slices rule n) k (inr (inr (inl e))) = room_at (plain (Slices rule n)) k kind.PBPicture (one_byte 0xB6) (alone_cut (one_byte 0xB6) refl) e refl (next_picture (inr refl) one_nonzero)
room (Slices rule n) k (inr (inr (inr (inl e)))) = room_at (plain (Slices rule n)) k kind.SequenceHeader plain_unit plain_alone e refl (next_sequence refl plain_header_lem)
room (Slices rule n) k (inr (inr (inr (inr (inl e))))) = room_at (plain (Slices rule n)) k kind.SequenceEnd (empty 0xB1) (alone_cut (empty 0xB1) refl) e refl (end refl refl)
room (Slices rule n) k (inr (inr (inr (inr (inr (inl e)))))) = room_at (plain (Slices rule n)) k kind.EditCode (empty 0xB7) (alone_cut (empty 0xB7) refl) e refl (edit refl refl)
room (Slices rule n) k (inr (inr (inr (inr (inr (inr e)))))) = elim e [ ]
room Ended k (inl e) = room_at Ended k kind.EditCode (empty 0xB7) (alone_cut (empty 0xB7) refl) e refl (end_edit refl refl)
room Ended k (inr e) = elim e [ ]
room Closed k e = elim e [ ]

same_kinds : (us vs : List StreamUnit) (u v : StreamUnit) → kinds_of vs ≡ kinds_of us → kind_of v.code ≡ kind_of u.code → kinds_of (vs ++ v ∷ []) ≡ kinds_of (us ++ u ∷ [])
same_kinds us vs u v e f = let a = kinds_more us u in let b = kinds_more vs v in cc

-- a sentence with the same kinds, whose slices are not tested
canonical : {us : List StreamUnit} {q : State} → At us q → (vs : List StreamUnit) × At vs (plain q) × (kinds_of vs ≡ kinds_of us) × All Alone vs
canonical start = ([], start, refl, tt)
canonical (more {us} {q} {q'} {u} at g) =
    let r = canonical at in
    let k = goes_kind g in
    let v = room q k.0 (goes_has g k.0 k.1) in
    let next : onward (done k.0) (plain q) ≡ plain q' = sym (goes_onward g ∙ ap (λ (o : Outcome Kind). onward o (plain q)) k.1) in
    (r.0 ++ v.0 ∷ [], subst (At (r.0 ++ v.0 ∷ [])) next (more r.1 v.1), same_kinds us r.0 u v.0 r.2 (v.2 ∙ sym k.1), all_append Alone r.0 (v.0 ∷ []) r.3 (v.3, tt))

-- where the table has its kind, the unit is in place
pub has_in_place : {us : List StreamUnit} {q : State} → At us q → (u : StreamUnit) (k : Kind) → IsKind k u → Has k (kinds_in (table q u)) → InPlace us u
has_in_place {us} {q} at u k is h =
    let r = canonical at in
    let v = room q k (rw kinds_are at h) in
    let same = same_kinds us r.0 u v.0 r.2 (v.2 ∙ sym is) in
    let b = (begins_iff (r.0 ++ v.0 ∷ [])).0 ((_, more r.1 v.1), all_append Alone r.0 (v.0 ∷ []) r.3 (v.3, tt)) in (
      kinds_of b.0,
      (
        (r.0 ++ v.0 ∷ []) ++ b.0,
        b.1,
        map-append (λ u. kind_of u.code) (r.0 ++ v.0 ∷ []) b.0 ∙ ap (λ (ks : List (Outcome Kind)). ks ++ kinds_of b.0) same,
      ),
    )

-- ── the unit is in place: the table has its kind ──

-- a list whose kinds go on from those of us by that of u
pub record Split (us : List StreamUnit) (u : StreamUnit) (ws : List StreamUnit) : Type 0 where
  pub vs : List StreamUnit
  pub v : StreamUnit
  pub rest : List StreamUnit
  pub is : ws ≡ vs ++ v ∷ rest
  pub before : kinds_of vs ≡ kinds_of us
  pub here : kind_of v.code ≡ kind_of u.code

split : (us : List StreamUnit) (u : StreamUnit) (ws : List StreamUnit) (rest : List (Outcome Kind)) → kinds_of ws ≡ kinds_of (us ++ u ∷ []) ++ rest → Split us u ws
split [] u [] rest e = let z : ◌≡◌ {A = ℕ} 0 1 = cc in absurd (omega arith)
split [] u (w ∷ ws) rest e = record { vs = []; v = w; rest = ws; is = refl; before = refl; here = cc }
split (x ∷ us) u [] rest e = let z : ◌≡◌ {A = ℕ} 0 1 = cc in absurd (omega arith)
split (x ∷ us) u (w ∷ ws) rest e = let s = split us u ws rest (cc) in let i = s.is in let b = s.before in
    record { vs = w ∷ s.vs; v = s.v; rest = s.rest; is = cc; before = cc; here = s.here }

pub left_goes : (us : List StreamUnit) (v : StreamUnit) (rest : List StreamUnit) → Left us (v ∷ rest) → (q : State) × At us q × ((q' : State) × Goes q v q')
left_goes us v rest l = by_rest l.ms l.accepts l.is
  where
    by_rest : (ms : List Placed) → Accepts l.state ms → map (λ m. m.unit) ms ≡ v ∷ rest → (q : State) × At us q × ((q' : State) × Goes q v q')
    by_rest [] a e = let z : ◌≡◌ {A = ℕ} 0 1 = cc in absurd (omega arith)
    by_rest (m ∷ ms) a e = let h : m.unit ≡ v = cc in (l.state, l.at, (a.0, rw h at a.1))

pub in_place_has : {us : List StreamUnit} {q : State} → At us q → (u : StreamUnit) (k : Kind) → IsKind k u → InPlace us u → Has k (kinds_in (table q u))
in_place_has {us} {q} at u k is p =
    let s = split us u p.1.0 p.0 p.1.2 in
    let i : IsSentence (s.vs ++ s.v ∷ s.rest) = rw s.is at p.1.1 in
    let g = left_goes s.vs s.v s.rest (sentence_left s.vs (s.v ∷ s.rest) i) in
    let h = goes_has g.2.1 k (s.here ∙ is) in
    let same : plain g.0 ≡ plain q = stage g.1 ∙ ap (stage_from Start) s.before ∙ sym (stage at) in
    rw kinds_are (subst (λ (q : State). Has k (kinds_at q)) same h)

-- ── the units are a sentence exactly where the state is final ──

plain_final : (q : State) → final (plain q) ≡ final q
plain_final Start = refl
plain_final (Head rule d) = refl
plain_final (InPicture rule) = refl
plain_final (Slices rule n) = refl
plain_final Ended = refl
plain_final Closed = refl

left_final : (us : List StreamUnit) → Left us [] → (q : State) × At us q × (final q ≡ true)
left_final us l = by_rest l.ms l.accepts l.is
  where
    by_rest : (ms : List Placed) → Accepts l.state ms → map (λ m. m.unit) ms ≡ [] → (q : State) × At us q × (final q ≡ true)
    by_rest [] a e = (l.state, l.at, a)
    by_rest (m ∷ ms) a e = let z : ◌≡◌ {A = ℕ} 0 1 = cc in absurd (omega arith)

pub final_iff : {us : List StreamUnit} {q : State} → At us q → All Alone us → (final q ≡ true) ↔ IsSentence us
final_iff {us} {q} at a = (
  (λ t. rw append-nil at (sentence_from at [] t (rw append-nil a))),
  λ s. let l = left_final us (sentence_left us [] (rw append-nil s)) in sym (plain_final q) ∙ ap final (stage at ∙ sym (stage l.1)) ∙ plain_final l.0 ∙ l.2,
)
