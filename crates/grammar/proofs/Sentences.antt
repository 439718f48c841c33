-- Units lead to a state exactly where they begin a sentence; and what a state says of the units before it.
use Rattle.std.proofs.Common.{Ok}
use Prim.Native.Nat.{ℕ, ◌≤◌, ◌<◌, ◌+◌}
use mathlib.Core.Path.{◌≡◌, refl, sym, ◌∙◌, ap}
use mathlib.Core.Logic.{◌≢◌, ◌⊎◌, inl, inr, ◌↔◌}
use mathlib.Core.List.{List, [], ◌∷◌, ◌++◌, map, append_assoc, append-nil}
use mathlib.Core.Bool.{Bool, true, false}
use mathlib.Core.Option.{some}
use native.Mathlib.Omega.{arith}
use Rattle.bits.specs.Lists.{All}
use Rattle.bits.specs.Bits.{bits_in, bits_of, read_on, read_at}
use Rattle.bits.proofs.ListLaws.{all_append, absent}
use Rattle.layout.specs.Reader.{ruled, allows, values_of, judge, judged, cross, ended, reading}
use Rattle.bodies.specs.Reader.{record_of, header_result}
use Rattle.layout.specs.Layouts.{fields, least_bytes}
use Rattle.layout.specs.Obeys.{AllAllowed}
use Rattle.bodies.specs.Records.{header_record}
use Rattle.layout.specs.declared.Layout.TheVariants.{Header}
use Rattle.bodies.specs.declared.Scope.TheVariants as scope
use Rattle.bodies.specs.declared.SequenceHeader.{SequenceHeader}
use Rattle.macroblocks.specs.Macroblocks.{macroblock_rows}
use Rattle.macroblocks.proofs.RowLaws as rows
use Rattle.startcode.specs.Prefix.{begins}
use Rattle.startcode.specs.Kinds.{kind_of}
use Rattle.startcode.specs.declared.Kind.{Kind}
use Rattle.startcode.specs.declared.Kind.TheVariants as kind
use Rattle.grammar.specs.Lists.{concat_map}
use Rattle.grammar.specs.Grammar.{StreamUnit, bytes, IsKind, Alone, Reading, units, Nonzero, IsHeader, IsPictureHead, DisplayUnit, slice_rule}
use Rattle.grammar.specs.Reader.{cut, same_kind, scope_in}
use Rattle.grammar.specs.Rows.{Placed, placed, placed_units}
use Rattle.grammar.specs.Refusals.{IsSentence, BeginsSentence, Last, IsHead, InHead, AfterPicture, InGroup, NotGreater}
use Rattle.grammar.specs.declared.SliceRule.{SliceRule}
use Rattle.grammar.specs.declared.State.{State}
use Rattle.grammar.specs.declared.State.TheVariants.{Start, Head, Picture as InPicture, Slices, Ended, Closed}
use Rattle.grammar.proofs.KindLaws.{apart}
use Rattle.grammar.proofs.BodyLaws.{header_good}
use Rattle.grammar.proofs.CutLaws.{chunk, uncut}
use Rattle.grammar.proofs.Division.{Goes, sequence, user, extension, display, first_picture, extra, first_slice, next_slice, next_picture, next_sequence, end, edit, end_edit, Accepts, sound, complete}
use Rattle.grammar.proofs.StepLaws.{Some}
use Rattle.grammar.proofs.Filing.{unit_of, units_of_placed}
use Rattle.grammar.proofs.Unique.{Shorter, compare_prefixes}

-- the units lead from the start to the state
pub data At : List StreamUnit → State → Type 0 where
  start : At [] Start
  more : {us : List StreamUnit} {q q' : State} {u : StreamUnit} → At us q → Goes q u q' → At (us ++ u ∷ []) q'

-- ── the last such unit ──

shorter_same : (Is : StreamUnit → Type 0) {b c xs ys : List StreamUnit} {u v : StreamUnit} → All (λ v. ¬ Is v) xs → Is v → Shorter b (u ∷ xs) c (v ∷ ys) → (u ≡ v) × (xs ≡ ys)
shorter_same Is {b} {c} {xs} {ys} {u} {v} a k s = by_mid s.mid s.rest
  where
    by_mid : (mid : List StreamUnit) → u ∷ xs ≡ mid ++ v ∷ ys → (u ≡ v) × (xs ≡ ys)
    by_mid [] e = (cc, cc)
    by_mid (m ∷ mid) e = let f : xs ≡ mid ++ v ∷ ys = cc in absurd (absent Is mid v ys (rw f at a) k)

module _ {Is : StreamUnit → Type 0} where
  last_new : (us : List StreamUnit) (u : StreamUnit) → Is u → Last Is (us ++ u ∷ []) u []
  last_new us u i = record { before = us; all = refl; is = i; last = tt }

  last_more : {us after : List StreamUnit} {v : StreamUnit} (u : StreamUnit) → ¬ Is u → Last Is us v after → Last Is (us ++ u ∷ []) v (after ++ u ∷ [])
  last_more {us} {after} {v} u n l = record {
    before = l.before;
    all = ap (λ (l : List StreamUnit). l ++ u ∷ []) l.all ∙ append_assoc l.before (v ∷ after) (u ∷ []);
    is = l.is;
    last = all_append (λ v. ¬ Is v) after (u ∷ []) l.last (n, tt);
  }

  pub last_same : {us xs ys : List StreamUnit} {u v : StreamUnit} → Last Is us u xs → Last Is us v ys → (u ≡ v) × (xs ≡ ys)
  last_same {us} {xs} {ys} {u} {v} l m = elim (compare_prefixes l.before (u ∷ xs) m.before (v ∷ ys) (sym l.all ∙ m.all)) [
    | inl s ↦ shorter_same Is l.last m.is s
    | inr s ↦ let r = shorter_same Is m.last l.is s in (sym r.0, sym r.1)
  ]

same_end : (b c : List StreamUnit) (u v : StreamUnit) → b ++ u ∷ [] ≡ c ++ v ∷ [] → u ≡ v
same_end b c u v e = let l : Last (λ c. Unit {0}) (b ++ u ∷ []) u [] = last_new b u tt in
    let m : Last (λ c. Unit {0}) (b ++ u ∷ []) v [] = record { before = c; all = e; is = tt; last = tt } in
    (last_same l m).0

-- ── what a state says of the units before it ──

-- the rule is that of the group's header
pub record Ruled (us : List StreamUnit) (rule : SliceRule) : Type 0 where
  pub header : SequenceHeader
  pub group : InGroup us header
  pub is : rule ≡ slice_rule header

-- a slice that comes next is not greater than the one before it exactly where its code is below `least`
abbrev pub Least : List StreamUnit → ℕ → Type 0
Least us least = (u : StreamUnit) → NotGreater us u ↔ (u.code < least)

-- a group's head, with a display extension in it or with none
abbrev pub HeadSays : List StreamUnit → Bool → Type 0
HeadSays us d = (extras : List StreamUnit) × InHead us extras × ((d ≡ true) ↔ Some DisplayUnit extras)

abbrev pub Says : List StreamUnit → State → Type 0
Says us Start = Unit {0}
Says us (Head rule d) = Ruled us rule × HeadSays us d
Says us (InPicture rule) = Ruled us rule × AfterPicture us × Least us 0
Says us (Slices rule least) = Ruled us rule × Least us least
Says us Ended = Unit {0}
Says us Closed = Unit {0}

new_rule : (us : List StreamUnit) (u : StreamUnit) (header : SequenceHeader) → IsKind kind.SequenceHeader u → IsHeader u.body header → Ruled (us ++ u ∷ []) (slice_rule header)
new_rule us u header c k = record { header = header; group = record { head = u; after = []; last = last_new us u c; body = k }; is = refl }

same_rule : {us : List StreamUnit} {rule : SliceRule} (u : StreamUnit) → ¬ IsKind kind.SequenceHeader u → Ruled us rule → Ruled (us ++ u ∷ []) rule
same_rule u n r = record { header = r.header; group = record { head = r.group.head; after = r.group.after ++ u ∷ []; last = last_more u n r.group.last; body = r.group.body }; is = r.is }

-- a unit of another kind is no header
not_kind : (j : Kind) {k : Kind} (u : StreamUnit) → IsKind k u → same_kind k j ≡ false → ¬ IsKind j u
not_kind j {k} u e d f = apart k j d e f

not_head : {k : Kind} (u : StreamUnit) → IsKind k u → same_kind k kind.SequenceHeader ≡ false → same_kind k kind.IPicture ≡ false → same_kind k kind.PBPicture ≡ false → ¬ IsHead u
not_head {k} u e s i p (inl f) = apart k kind.SequenceHeader s e f
not_head {k} u e s i p (inr (inl f)) = apart k kind.IPicture i e f
not_head {k} u e s i p (inr (inr f)) = apart k kind.PBPicture p e f

-- the last unit is no slice
no_slice : (us : List StreamUnit) (v : StreamUnit) → ¬ IsKind kind.Slice v → Least (us ++ v ∷ []) 0
no_slice us v h u = (
  (λ g. let e : v ≡ g.1 = same_end us g.0 v g.1 g.2 in absurd (h (ap (λ (u : StreamUnit). kind_of u.code) e ∙ g.3))),
  λ l. absurd (omega arith),
)

-- the last unit is a slice
a_slice : (us : List StreamUnit) (v : StreamUnit) → IsKind kind.Slice v → Least (us ++ v ∷ []) (v.code + 1)
a_slice us v h u = (
  (λ g. let e : v ≡ g.1 = same_end us g.0 v g.1 g.2 in let l : u.code ≤ g.1.code = g.4 in let k : v.code ≡ g.1.code = ap (λ (u : StreamUnit). u.code) e in omega arith),
  λ l. (us, v, refl, h, omega arith),
)

some_before : (P : StreamUnit → Type 0) (l : List StreamUnit) (u : StreamUnit) → Some P l → Some P (l ++ u ∷ [])
some_before P [] u s = elim s [ ]
some_before P (x ∷ l) u (inl p) = inl p
some_before P (x ∷ l) u (inr s) = inr (some_before P l u s)

some_last : (P : StreamUnit → Type 0) (l : List StreamUnit) (u : StreamUnit) → P u → Some P (l ++ u ∷ [])
some_last P [] u p = inl p
some_last P (x ∷ l) u p = inr (some_last P l u p)

some_split : (P : StreamUnit → Type 0) (l : List StreamUnit) (u : StreamUnit) → Some P (l ++ u ∷ []) → Some P l ⊎ P u
some_split P [] u (inl p) = inr p
some_split P [] u (inr s) = elim s [ ]
some_split P (x ∷ l) u (inl p) = inl (inl p)
some_split P (x ∷ l) u (inr s) = elim (some_split P l u s) [ inl k ↦ inl (inr k) | inr p ↦ inr p ]

-- a unit of a head that is no display extension
same_head : {us : List StreamUnit} {d : Bool} (u : StreamUnit) → ¬ IsHead u → ¬ DisplayUnit u → HeadSays us d → HeadSays (us ++ u ∷ []) d
same_head u n k h = (
  h.0 ++ u ∷ [],
  (h.1.0, last_more u n h.1.1, h.1.2),
  ((λ t. some_before DisplayUnit h.0 u (h.2.0 t)), λ s. elim (some_split DisplayUnit h.0 u s) [ inl b ↦ h.2.1 b | inr p ↦ absurd (k p) ]),
)

new_head : (us : List StreamUnit) (u : StreamUnit) → IsKind kind.SequenceHeader u → HeadSays (us ++ u ∷ []) false
new_head us u c = ([], (u, last_new us u (inl c), c), ((λ t. let z : ◌≡◌ {A = ℕ} 0 1 = cc in absurd (omega arith)), λ s. absurd s))

new_picture : {us : List StreamUnit} {rule : SliceRule} (u : StreamUnit) → IsPictureHead u → Ruled us rule → Says (us ++ u ∷ []) (InPicture rule)
new_picture {us} u c r = (same_rule u (other kind.SequenceHeader refl refl c) r, (u, [], last_new us u (inr c), c), no_slice us u (other kind.Slice refl refl c))
  where
    other : (k : Kind) → same_kind kind.IPicture k ≡ false → same_kind kind.PBPicture k ≡ false → IsPictureHead u → ¬ IsKind k u
    other k d f (inl c) = not_kind k u c d
    other k d f (inr c) = not_kind k u c f

-- user data or an extension
picture_extra : {us : List StreamUnit} {rule : SliceRule} {k : Kind} (u : StreamUnit) → IsKind k u → ¬ IsHead u → ¬ IsKind kind.Slice u → Says us (InPicture rule) → Says (us ++ u ∷ []) (InPicture rule)
picture_extra {us} u c n m s = (
  same_rule u (λ e. n (inl e)) s.0,
  (s.1.0, s.1.1 ++ u ∷ [], last_more u n s.1.2, s.1.3),
  no_slice us u m,
)

goes_says : {u : StreamUnit} {q q' : State} → Goes q u q' → (us : List StreamUnit) → Says us q → Says (us ++ u ∷ []) q'
goes_says (sequence {u} {header} c k) us s = (new_rule us u header c k, new_head us u c)
goes_says (user {u} c) us s = (same_rule u (not_kind kind.SequenceHeader u c refl) s.0, same_head u (not_head u c refl refl refl) (λ d. apart kind.UserData kind.Extension refl c d.0) s.1)
goes_says (extension {u} c k n) us s = (same_rule u (not_kind kind.SequenceHeader u c refl) s.0, same_head u (not_head u c refl refl refl) (λ d. n d.1) s.1)
goes_says (display {u} c k n d) us s = let h = s.1 in (
  same_rule u (not_kind kind.SequenceHeader u c refl) s.0,
  (h.0 ++ u ∷ [], (h.1.0, last_more u (not_head u c refl refl refl) h.1.1, h.1.2), ((λ t. some_last DisplayUnit h.0 u (c, n)), λ s. refl)),
)
goes_says (first_picture {u} c k) us s = new_picture u (inl c) s.0
goes_says (extra {u} (inl c)) us s = picture_extra u c (not_head u c refl refl refl) (not_kind kind.Slice u c refl) s
goes_says (extra {u} (inr k)) us s = picture_extra u k.0 (not_head u k.0 refl refl refl) (not_kind kind.Slice u k.0 refl) s
goes_says (first_slice {u} k o) us s = (same_rule u (not_kind kind.SequenceHeader u k.0 refl) s.0, a_slice us u k.0)
goes_says (next_slice {u} k o) us s = (same_rule u (not_kind kind.SequenceHeader u k.0 refl) s.0, a_slice us u k.0)
goes_says (next_picture {u} c k) us s = new_picture u c s.0
goes_says (next_sequence {u} {header = header} c k) us s = (new_rule us u header c k, new_head us u c)
goes_says (end c k) us s = tt
goes_says (edit c k) us s = tt
goes_says (end_edit c k) us s = tt

pub says : {us : List StreamUnit} {q : State} → At us q → Says us q
says start = tt
says (more {us} at g) = goes_says g us (says at)

-- ── from sentences to states ──

-- what is left of a list that leads on from a state, after the units us
pub record Left (us : List StreamUnit) (rest : List StreamUnit) : Type 0 where
  pub state : State
  pub at : At us state
  pub ms : List Placed
  pub accepts : Accepts state ms
  pub is : map unit_of ms ≡ rest

left_after : (us rest vs : List StreamUnit) (q : State) (ms : List Placed) → At vs q → Accepts q ms → map unit_of ms ≡ us ++ rest → Left (vs ++ us) rest
left_after [] rest vs q ms at a e = record { state = q; at = rw append-nil at; ms = ms; accepts = a; is = e }
left_after (u ∷ us) rest vs q [] at a e = let z : ◌≡◌ {A = ℕ} 0 1 = cc in absurd (omega arith)
left_after (u ∷ us) rest vs q (m ∷ ms) at a e =
    let h : m.unit ≡ u = cc in
    let g : Goes q u a.0 = rw h at a.1 in
    rw append_assoc at (left_after us rest (vs ++ u ∷ []) a.0 ms (more at g) a.3 (cc))

pub sentence_left : (us rest : List StreamUnit) → IsSentence (us ++ rest) → Left us rest
sentence_left us rest s = left_after us rest [] Start (placed_units s.0) start (complete s.0.groups s.0.ending s.1.some_group s.1.groups s.1.ending) (units_of_placed s.0 ∙ s.2)

-- ── from states to sentences ──

accepted_sentence : (ms : List Placed) → Accepts Start ms → All Alone (map unit_of ms) → IsSentence (map unit_of ms)
accepted_sentence ms a k =
    let t = sound ms Start a in
    let r : Reading = record { groups = t.rest.gs; ending = t.rest.e } in
    let i : units r ≡ map unit_of ms = sym (units_of_placed r) ∙ ap (map unit_of) (sym t.rest.is) in
    (r, record { stream_is = ap (concat_map bytes) i; alone = rw i k; some_group = t.some_group; groups = t.rest.groups; ending = t.rest.ending }, i)

pub sentence_from : {us : List StreamUnit} {q : State} → At us q → (ms : List Placed) → Accepts q ms → All Alone (us ++ map unit_of ms) → IsSentence (us ++ map unit_of ms)
sentence_from start ms a k = accepted_sentence ms a k
sentence_from (more {us} {q} {q'} {u} at g) ms a k = rw append_assoc (sentence_from at (placed (scope_in q u) u ∷ ms) (q', g, refl, a) (rw append_assoc at k))

-- ── every state that is reached can be ended ──

-- the fifth value of a header is its vertical size
module _ (a b c d v : ℕ) (header : SequenceHeader) where
  fifth : (rest : List ℕ) → header_record (a ∷ b ∷ c ∷ d ∷ v ∷ rest) ≡ some header → header.vertical ≡ v
  unfolding header_record
  fifth [] e = cc
  fifth (a₁ ∷ []) e = cc
  fifth (a₁ ∷ a₂ ∷ []) e = cc
  fifth (a₁ ∷ a₂ ∷ a₃ ∷ []) e = cc
  fifth (a₁ ∷ a₂ ∷ a₃ ∷ a₄ ∷ []) e = cc
  fifth (a₁ ∷ a₂ ∷ a₃ ∷ a₄ ∷ a₅ ∷ []) e = cc
  fifth (a₁ ∷ a₂ ∷ a₃ ∷ a₄ ∷ a₅ ∷ a₆ ∷ []) e = cc
  fifth (a₁ ∷ a₂ ∷ a₃ ∷ a₄ ∷ a₅ ∷ a₆ ∷ a₇ ∷ []) e = cc
  fifth (a₁ ∷ a₂ ∷ a₃ ∷ a₄ ∷ a₅ ∷ a₆ ∷ a₇ ∷ a₈ ∷ []) e = cc
  fifth (a₁ ∷ a₂ ∷ a₃ ∷ a₄ ∷ a₅ ∷ a₆ ∷ a₇ ∷ a₈ ∷ a₉ ∷ []) e = cc
  fifth (a₁ ∷ a₂ ∷ a₃ ∷ a₄ ∷ a₅ ∷ a₆ ∷ a₇ ∷ a₈ ∷ a₉ ∷ b₁ ∷ []) e = cc
  fifth (a₁ ∷ a₂ ∷ a₃ ∷ a₄ ∷ a₅ ∷ a₆ ∷ a₇ ∷ a₈ ∷ a₉ ∷ b₁ ∷ b₂ ∷ []) e = cc
  fifth (a₁ ∷ a₂ ∷ a₃ ∷ a₄ ∷ a₅ ∷ a₆ ∷ a₇ ∷ a₈ ∷ a₉ ∷ b₁ ∷ b₂ ∷ b₃ ∷ rest) e = cc

vertical : (vs : List ℕ) (header : SequenceHeader) → AllAllowed (fields Header) vs → header_record vs ≡ some header → header.vertical ≢ 0
unfolding AllAllowed fields
vertical [] header k e = absurd k
vertical (a ∷ []) header k e = absurd k.1
vertical (a ∷ b ∷ []) header k e = absurd k.1.1
vertical (a ∷ b ∷ c ∷ []) header k e = absurd k.1.1.1
vertical (a ∷ b ∷ c ∷ d ∷ []) header k e = absurd k.1.1.1.1
vertical (a ∷ b ∷ c ∷ d ∷ v ∷ rest) header k e = rw (fifth a b c d v header rest e) k.1.1.1.1.0

pub some_row : (body : List ℕ) (header : SequenceHeader) → IsHeader body header → 1 ≤ macroblock_rows header
some_row body header k = rows.some_row header (vertical k.0 header k.1.allowed k.2)

-- a header whose slices are not tested
pub plain_body : List ℕ
plain_body = 0x48 ∷ 0x40 ∷ 0x0F ∷ 0x00 ∷ 0x7D ∷ 0x02 ∷ 0x44 ∷ 0x44 ∷ 0xE2 ∷ 0x08 ∷ 0x00 ∷ 0x20 ∷ 0x00 ∷ 0x08 ∷ 0x80 ∷ []

abbrev pub plain_header : SequenceHeader
plain_header = record { profile = 72; level = 64; progressive = 0; horizontal = 1920; vertical = 4000; chroma = 1; precision = 1; aspect = 1; rate = 1; bitrate = 20000; delay = 0; buffer = 1 }

plain_result : header_result plain_body ≡ Ok plain_header
unfolding plain_body record_of reading header_record values_of fields least_bytes bits_of bits_in read_at read_on judged judge ruled allows cross ended
plain_result = refl

pub plain_header_lem : IsHeader plain_body plain_header
plain_header_lem = (header_good plain_body plain_header).0 plain_result

-- a unit with this code and one byte, which is not 0
abbrev pub one_byte : ℕ → StreamUnit
one_byte code = record { code = code; body = 1 ∷ [] }

pub one_nonzero : Nonzero (1 ∷ [])
one_nonzero a = let e : ◌≡◌ {A = ℕ} 1 0 = a.0 in omega arith

abbrev SomeRow : SliceRule → Type 0
SomeRow rule = rule.tested ≡ true → 0 < rule.rows

-- a unit with this code and no body
abbrev pub empty : ℕ → StreamUnit
empty code = record { code = code; body = [] }

-- a unit that is cut as one is alone
pub alone_cut : (u : StreamUnit) → (cut (bytes u)).chunks ≡ chunk u ∷ [] → Alone u
unfolding begins
alone_cut u e = (uncut (bytes u) (u ∷ []) refl e).1.0

abbrev Ends : State → Type 0
Ends q = (ms : List Placed) × Accepts q ms × All Alone (map unit_of ms)

end_slices : (rule : SliceRule) (n : ℕ) → Ends (Slices rule n)
unfolding cut begins kind_of
end_slices rule n = (placed scope.Picture (empty 0xB1) ∷ [], (Ended, end refl refl, refl, refl), (alone_cut (empty 0xB1) refl, tt))

end_picture : (rule : SliceRule) → SomeRow rule → Ends (InPicture rule)
unfolding cut begins kind_of
end_picture rule h = let r = end_slices rule 1 in (
  placed scope.Picture (one_byte 0) ∷ r.0,
  (Slices rule 1, first_slice {u = one_byte 0} (refl, one_nonzero) (λ t. (omega arith, h t)), refl, r.1),
  (alone_cut (one_byte 0) refl, r.2),
)

end_head : (rule : SliceRule) (d : Bool) → SomeRow rule → Ends (Head rule d)
unfolding cut begins kind_of
end_head rule d h = let r = end_picture rule h in
    (placed scope.Picture (one_byte 0xB3) ∷ r.0, (InPicture rule, first_picture refl one_nonzero, refl, r.1), (alone_cut (one_byte 0xB3) refl, r.2))

ruled_row : {us : List StreamUnit} {rule : SliceRule} → Ruled us rule → SomeRow rule
ruled_row r t = rw r.is (some_row r.group.head.body r.header r.group.body)

abbrev pub plain_unit : StreamUnit
plain_unit = record { code = 0xB0; body = plain_body }

pub plain_alone : Alone plain_unit
unfolding cut begins plain_body
plain_alone = alone_cut plain_unit refl

ends : (us : List StreamUnit) (q : State) → Says us q → Ends q
unfolding kind_of
ends us Start s =
    let r = end_head (slice_rule plain_header) false (λ t. some_row plain_body plain_header plain_header_lem) in
    (placed scope.Picture plain_unit ∷ r.0, (Head (slice_rule plain_header) false, sequence refl plain_header_lem, refl, r.1), (plain_alone, r.2))
ends us (Head rule d) s = end_head rule d (ruled_row s.0)
ends us (InPicture rule) s = end_picture rule (ruled_row s.0)
ends us (Slices rule n) s = end_slices rule n
ends us Ended s = ([], refl, tt)
ends us Closed s = ([], refl, tt)

-- ── units begin a sentence exactly where they lead to a state and are alone ──

pub begins_iff : (us : List StreamUnit) → (((q : State) × At us q) × All Alone us) ↔ BeginsSentence us
begins_iff us = (
  (λ a. let e = ends us a.0.0 (says a.0.1) in (map unit_of e.0, sentence_from a.0.1 e.0 e.1 (all_append Alone us (map unit_of e.0) a.1 e.2))),
  λ s. let l = sentence_left us s.0 s.1 in ((l.state, l.at), first_all us s.0 (rw s.1.2 at s.1.1.alone)),
)
  where
    first_all : (us vs : List StreamUnit) → All Alone (us ++ vs) → All Alone us
    first_all [] vs h = tt
    first_all (u ∷ us) vs h = (h.0, first_all us vs h.1)
