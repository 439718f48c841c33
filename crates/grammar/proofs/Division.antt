-- The states follow the grammar: a list of units leads from a state to an ending exactly where it goes on a sentence from there.
use Prim.Native.Nat.{ℕ, ◌≤◌, ◌<◌, ◌+◌}
use mathlib.Core.Path.{◌≡◌, refl, sym, ◌∙◌, ap, subst}
use mathlib.Core.Logic.{◌≢◌, ◌⊎◌, inl, inr, ◌↔◌}
use mathlib.Core.List.{List, [], ◌∷◌, ◌++◌, map, append_assoc, map-append, cons-ne-nil}
use mathlib.Core.Bool.{Bool, true, false}
use native.Mathlib.Omega.{arith}
use Rattle.bits.specs.Lists.{All}
use Rattle.bits.proofs.TestLaws.{by_test, contrary}
use Rattle.startcode.specs.declared.Kind.TheVariants as kind
use Rattle.bodies.specs.Extensions.{numbered, HasNumber}
use Rattle.bodies.specs.declared.Scope.{Scope}
use Rattle.bodies.specs.declared.Scope.TheVariants as scope
use Rattle.bodies.specs.declared.SequenceHeader.{SequenceHeader}
use Rattle.grammar.specs.Lists.{AtMostOne, concat_map}
use Rattle.grammar.specs.Grammar.{StreamUnit, IsKind, Picture, Group, Nonzero, Rising, Empty, IsEnding, Extension, IsHeader, IsDisplay, PictureExtra, HeadExtra, DisplayUnit, IsSlice, IsPictureHead, IsPicture, FirstIsI, IsGroup, slice_rule}
use Rattle.grammar.specs.Rows.{Placed, placed, placed_picture, placed_group}
use Rattle.grammar.specs.Reader.{scope_in, final}
use Rattle.grammar.specs.declared.SliceRule.{SliceRule}
use Rattle.grammar.specs.declared.State.{State}
use Rattle.grammar.proofs.KindLaws.{apart}
use Rattle.grammar.specs.declared.State.TheVariants.{Start, Head, Picture as InPicture, Slices, Ended, Closed}

-- each code is at least n and greater than the one before it, and less than rows
abbrev pub RisingFrom : ℕ → ℕ → List StreamUnit → Type 0
RisingFrom n rows [] = Unit {0}
RisingFrom n rows (s ∷ ss) = (n ≤ s.code) × (s.code < rows) × RisingFrom (s.code + 1) rows ss

from_rising : (n rows : ℕ) (ss : List StreamUnit) → RisingFrom n rows ss → Rising ss × All (λ s. s.code < rows) ss
from_rising n rows [] r = (tt, tt)
from_rising n rows (s ∷ []) r = (tt, (r.1, tt))
from_rising n rows (s ∷ t ∷ ss) r = let k = from_rising (s.code + 1) rows (t ∷ ss) r.2 in ((omega (arith, r.2.0), k.0), (r.1, k.1))

to_rising : (n rows : ℕ) (s : StreamUnit) (ss : List StreamUnit) → n ≤ s.code → Rising (s ∷ ss) → All (λ s. s.code < rows) (s ∷ ss) → RisingFrom n rows (s ∷ ss)
to_rising n rows s [] l r a = (l, a.0, tt)
to_rising n rows s (t ∷ ss) l r a = (l, a.0, to_rising (s.code + 1) rows t ss (omega (arith, r.0)) r.1 a.1)

rising_from_zero : (rows : ℕ) (ss : List StreamUnit) → Rising ss × All (λ s. s.code < rows) ss → RisingFrom 0 rows ss
rising_from_zero rows [] r = tt
rising_from_zero rows (s ∷ ss) r = to_rising 0 rows s ss (omega arith) r.0 r.1

picture_marks : (p : Picture) (t : List Placed) → placed_picture p ++ t ≡ placed scope.Picture p.head ∷ (map (placed scope.Picture) p.extras ++ (map (placed scope.Picture) p.slices ++ t))
picture_marks p t = ap (λ (l : List Placed). placed scope.Picture p.head ∷ (l ++ t)) (map-append (placed scope.Picture) p.extras p.slices) ∙ simp append_assoc

pictures_marks : (p : Picture) (ps : List Picture) (t : List Placed)
    → concat_map placed_picture (p ∷ ps) ++ t ≡ placed scope.Picture p.head ∷ (map (placed scope.Picture) p.extras ++ (map (placed scope.Picture) p.slices ++ (concat_map placed_picture ps ++ t)))
pictures_marks p ps t = append_assoc (placed_picture p) (concat_map placed_picture ps) t ∙ picture_marks p (concat_map placed_picture ps ++ t)

groups_marks : (g : Group) (gs : List Group) (t : List Placed)
    → concat_map placed_group (g ∷ gs) ++ t ≡ placed scope.Picture g.head ∷ (map (placed scope.Head) g.extras ++ (concat_map placed_picture g.pictures ++ (concat_map placed_group gs ++ t)))
groups_marks g gs t = simp append_assoc

-- ── an extension's number is 2, or not ──

pub number_two : (body : List ℕ) → (numbered 2 body ≡ true) ↔ HasNumber body 2
number_two body = ((λ t. record { small = omega arith; bits = t }), λ h. h.bits)

pub number_not_two : (body : List ℕ) → (numbered 2 body ≡ false) ↔ (¬ HasNumber body 2)
number_not_two body = (
  (λ f h. contrary (numbered 2 body) h.bits f),
  λ n. by_test (numbered 2 body) (λ t. absurd (n ((number_two body).0 t))) (λ f. f),
)

two_or_not : (body : List ℕ) → Dec (HasNumber body 2)
two_or_not body = by_test (numbered 2 body) (λ t. yes ((number_two body).0 t)) (λ f. no ((number_not_two body).0 f))

-- ── a unit leads from one state to another ──

pub data Goes : State → StreamUnit → State → Type 0 where
  sequence : {u : StreamUnit} {header : SequenceHeader} → IsKind kind.SequenceHeader u → IsHeader u.body header → Goes Start u (Head (slice_rule header) false)
  user : {u : StreamUnit} {h : SliceRule} {d : Bool} → IsKind kind.UserData u → Goes (Head h d) u (Head h d)
  extension : {u : StreamUnit} {h : SliceRule} {d : Bool} → IsKind kind.Extension u → Extension u.body → ¬ HasNumber u.body 2 → Goes (Head h d) u (Head h d)
  display : {u : StreamUnit} {h : SliceRule} → IsKind kind.Extension u → Extension u.body → HasNumber u.body 2 → IsDisplay u.body → Goes (Head h false) u (Head h true)
  first_picture : {u : StreamUnit} {h : SliceRule} {d : Bool} → IsKind kind.IPicture u → Nonzero u.body → Goes (Head h d) u (InPicture h)
  extra : {u : StreamUnit} {h : SliceRule} → PictureExtra u → Goes (InPicture h) u (InPicture h)
  first_slice : {u : StreamUnit} {h : SliceRule} → IsSlice u → (h.tested ≡ true → (0 ≤ u.code) × (u.code < h.rows)) → Goes (InPicture h) u (Slices h (u.code + 1))
  next_slice : {u : StreamUnit} {h : SliceRule} {n : ℕ} → IsSlice u → (h.tested ≡ true → (n ≤ u.code) × (u.code < h.rows)) → Goes (Slices h n) u (Slices h (u.code + 1))
  next_picture : {u : StreamUnit} {h : SliceRule} {n : ℕ} → IsPictureHead u → Nonzero u.body → Goes (Slices h n) u (InPicture h)
  next_sequence : {u : StreamUnit} {h : SliceRule} {n : ℕ} {header : SequenceHeader} → IsKind kind.SequenceHeader u → IsHeader u.body header → Goes (Slices h n) u (Head (slice_rule header) false)
  end : {u : StreamUnit} {h : SliceRule} {n : ℕ} → IsKind kind.SequenceEnd u → u.body ≡ [] → Goes (Slices h n) u Ended
  edit : {u : StreamUnit} {h : SliceRule} {n : ℕ} → IsKind kind.EditCode u → u.body ≡ [] → Goes (Slices h n) u Closed
  end_edit : {u : StreamUnit} → IsKind kind.EditCode u → u.body ≡ [] → Goes Ended u Closed

abbrev pub Accepts : State → List Placed → Type 0
Accepts q [] = final q ≡ true
Accepts q (m ∷ ms) = (q' : State) × Goes q m.unit q' × (m.scope ≡ scope_in q m.unit) × Accepts q' ms

-- ── from the states to the grammar ──

pub record RestGroups (ms : List Placed) : Type 0 where
  pub gs : List Group
  pub e : List StreamUnit
  pub groups : All (IsGroup) gs
  pub ending : IsEnding e
  pub is : ms ≡ concat_map placed_group gs ++ map (placed scope.Picture) e

pub record RestPictures (h : SliceRule) (ms : List Placed) : Type 0 where
  pub ps : List Picture
  pub tail : List Placed
  pub pictures : All (IsPicture h) ps
  pub is : ms ≡ concat_map placed_picture ps ++ tail
  pub after : RestGroups tail

pub record RestSlices (h : SliceRule) (n : ℕ) (ms : List Placed) : Type 0 where
  pub ss : List StreamUnit
  pub tail : List Placed
  pub slices : All IsSlice ss
  pub order : h.tested ≡ true → RisingFrom n h.rows ss
  pub is : ms ≡ map (placed scope.Picture) ss ++ tail
  pub after : RestPictures h tail

pub record RestPicture (h : SliceRule) (ms : List Placed) : Type 0 where
  pub xs : List StreamUnit
  pub tail : List Placed
  pub extras : All (PictureExtra) xs
  pub is : ms ≡ map (placed scope.Picture) xs ++ tail
  pub after : RestSlices h 0 tail
  pub some_slice : after.ss ≢ []

pub record RestHead (h : SliceRule) (d : Bool) (ms : List Placed) : Type 0 where
  pub xs : List StreamUnit
  pub tail : List Placed
  pub extras : All (HeadExtra) xs
  pub one_display : AtMostOne (DisplayUnit) xs
  pub none_more : d ≡ true → All (λ u. ¬ DisplayUnit u) xs
  pub is : ms ≡ map (placed scope.Head) xs ++ tail
  pub after : RestPictures h tail
  pub first : FirstIsI after.ps

pub record RestStart (ms : List Placed) : Type 0 where
  pub rest : RestGroups ms
  pub some_group : rest.gs ≢ []

abbrev pub Rest : State → List Placed → Type 0
Rest Start ms = RestStart ms
Rest (Head h d) ms = RestHead h d ms
Rest (InPicture h) ms = RestPicture h ms
Rest (Slices h n) ms = RestSlices h n ms
Rest Ended ms = (ms ≡ []) ⊎ ((e : StreamUnit) × Empty kind.EditCode e × (ms ≡ placed scope.Picture e ∷ []))
Rest Closed ms = ms ≡ []

one_group : {ms : List Placed} (u : StreamUnit) (b : Scope) (header : SequenceHeader) → IsKind kind.SequenceHeader u → IsHeader u.body header → b ≡ scope.Picture → RestHead (slice_rule header) false ms → RestStart (placed b u ∷ ms)
one_group u b header c k f r = record {
  rest = record {
    gs = record { head = u; extras = r.xs; pictures = r.after.ps } ∷ r.after.after.gs;
    e = r.after.after.e;
    groups = (record { header = header; kind = c; body = k; extras = r.extras; one_display = r.one_display; first = r.first; pictures = r.after.pictures }, r.after.after.groups);
    ending = r.after.after.ending;
    is = rw (f, r.is, r.after.is, r.after.after.is) (simp append_assoc);
  };
  some_group = cons-ne-nil _ _;
}

one_picture : {h : SliceRule} {ms : List Placed} (u : StreamUnit) (b : Scope) → IsPictureHead u → Nonzero u.body → b ≡ scope.Picture → RestPicture h ms → RestPictures h (placed b u ∷ ms)
one_picture {h} u b c k f r = record {
  ps = record { head = u; extras = r.xs; slices = r.after.ss } ∷ r.after.after.ps;
  tail = r.after.after.tail;
  pictures = (record { kind = c; body = k; extras = r.extras; some_slice = r.some_slice; slices = r.after.slices; order = λ w. from_rising 0 h.rows r.after.ss (r.after.order w) }, r.after.after.pictures);
  is = rw (f, r.is, r.after.is, r.after.after.is) (simp (append_assoc, picture_marks));
  after = r.after.after.after;
}

no_slices : {h : SliceRule} {n : ℕ} {ms : List Placed} → RestPictures h ms → RestSlices h n ms
no_slices r = record { ss = []; tail = _; slices = tt; order = λ o. tt; is = refl; after = r }

no_pictures : {h : SliceRule} {n : ℕ} {ms : List Placed} → RestGroups ms → RestSlices h n ms
no_pictures r = no_slices (record { ps = []; tail = _; pictures = tt; is = refl; after = r })

just_ending : {h : SliceRule} {n : ℕ} {ms : List Placed} (e : List StreamUnit) → IsEnding e → ms ≡ map (placed scope.Picture) e → RestSlices h n ms
just_ending e k p = no_pictures (record { gs = []; e = e; groups = tt; ending = k; is = p })

more_extra : {h : SliceRule} {d : Bool} {ms : List Placed} (u : StreamUnit) (b : Scope) → HeadExtra u → ¬ DisplayUnit u → b ≡ scope.Head → RestHead h d ms → RestHead h d (placed b u ∷ ms)
more_extra u b k n f r = record {
  xs = u ∷ r.xs;
  tail = r.tail;
  extras = (k, r.extras);
  one_display = ((λ i. absurd (n i)), r.one_display);
  none_more = λ e. (n, r.none_more e);
  is = rw (f, r.is);
  after = r.after;
  first = r.first;
}

one_slice : {h : SliceRule} {n : ℕ} {ms : List Placed} (u : StreamUnit) (b : Scope) → IsSlice u → (h.tested ≡ true → (n ≤ u.code) × (u.code < h.rows)) → b ≡ scope.Picture → RestSlices h (u.code + 1) ms → RestSlices h n (placed b u ∷ ms)
one_slice u b k o f r = record { ss = u ∷ r.ss; tail = r.tail; slices = (k, r.slices); order = λ w. ((o w).0, (o w).1, r.order w); is = rw (f, r.is); after = r.after }

no_false : {A : Type 0} → false ≡ true → A
no_false e = let z : ◌≡◌ {A = ℕ} 0 1 = cc in absurd (omega arith)

-- one unit back
back : {u : StreamUnit} {q q' : State} → Goes q u q' → (b : Scope) → b ≡ scope_in q u → (ms : List Placed) → Rest q' ms → Rest q (placed b u ∷ ms)
unfolding one_picture one_slice
back (sequence {u} {header} c k) b f ms r = one_group u b header c k f r
back (user {u} c) b f ms r = more_extra u b (inl c) (λ d. apart kind.UserData kind.Extension refl c d.0) (rw c at f) r
back (extension {u} c k n) b f ms r = more_extra u b (inr (c, k, λ e. absurd (n e))) (λ d. n d.1) (rw c at f) r
back (display {u} c k n d) b f ms r = let t : b ≡ scope.Head = rw c at f in
    record {
      xs = u ∷ r.xs;
      tail = r.tail;
      extras = (inr (c, k, λ e. d), r.extras);
      one_display = ((λ i. r.none_more refl), r.one_display);
      none_more = λ e. no_false e;
      is = rw (t, r.is);
      after = r.after;
      first = r.first;
    }
back (first_picture c k) b f ms r = record { xs = []; tail = _; extras = tt; one_display = tt; none_more = λ d. tt; is = refl; after = one_picture _ b (inl c) k (rw c at f) r; first = c }
back (extra {u} k) b f ms r = record { xs = u ∷ r.xs; tail = r.tail; extras = (k, r.extras); is = rw (f, r.is); after = r.after; some_slice = r.some_slice }
back (first_slice {u} k o) b f ms r = record { xs = []; tail = _; extras = tt; is = refl; after = one_slice u b k o f r; some_slice = cons-ne-nil _ _ }
back (next_slice {u} k o) b f ms r = one_slice u b k o f r
back (next_picture c k) b f ms r = no_slices (one_picture _ b c k f r)
back (next_sequence {u} {header = header} c k) b f ms r = no_pictures (one_group u b header c k f r).rest
back (end {u} c k) b f ms (inl e) = just_ending (u ∷ []) (inl (c, k)) (rw (f, e))
back (end {u} c k) b f ms (inr e) = just_ending (u ∷ e.0 ∷ []) ((c, k), e.1) (rw (f, e.2))
back (edit {u} c k) b f ms r = just_ending (u ∷ []) (inr (c, k)) (rw (f, r))
back (end_edit {u} c k) b f ms r = inr (u, (c, k), rw (f, r))

at_end : (q : State) → final q ≡ true → Rest q []
at_end Start e = no_false e
at_end (Head h d) e = no_false e
at_end (InPicture h) e = no_false e
at_end (Slices h n) e = no_false e
at_end Ended e = inl refl
at_end Closed e = refl

pub sound : (ms : List Placed) (q : State) → Accepts q ms → Rest q ms
sound [] q a = at_end q a
sound (m ∷ ms) q a = back a.1 m.scope a.2 ms (sound ms a.0 a.3)

-- ── from the grammar to the states ──

ending_passes : (h : SliceRule) (n : ℕ) (e : List StreamUnit) → IsEnding e → Accepts (Slices h n) (map (placed scope.Picture) e)
ending_passes h n [] p = absurd p
ending_passes h n (e ∷ []) (inl p) = (Ended, end p.0 p.1, refl, refl)
ending_passes h n (e ∷ []) (inr p) = (Closed, edit p.0 p.1, refl, refl)
ending_passes h n (e ∷ f ∷ []) p = (Ended, end p.0.0 p.0.1, refl, (Closed, end_edit p.1.0 p.1.1, refl, refl))
ending_passes h n (e ∷ f ∷ g ∷ more) p = absurd p

slices_pass : (h : SliceRule) (n : ℕ) (ss : List StreamUnit) (rest : List Placed) → All IsSlice ss → (h.tested ≡ true → RisingFrom n h.rows ss) → ((m : ℕ) → Accepts (Slices h m) rest)
    → Accepts (Slices h n) (map (placed scope.Picture) ss ++ rest)
slices_pass h n [] rest k o a = a n
slices_pass h n (s ∷ ss) rest k o a = (Slices h (s.code + 1), next_slice k.0 (λ w. ((o w).0, (o w).1)), refl, slices_pass h (s.code + 1) ss rest k.1 (λ w. (o w).2) a)

first_slices_pass : (h : SliceRule) (ss : List StreamUnit) (rest : List Placed) → ss ≢ [] → All IsSlice ss → (h.tested ≡ true → RisingFrom 0 h.rows ss) → ((m : ℕ) → Accepts (Slices h m) rest)
    → Accepts (InPicture h) (map (placed scope.Picture) ss ++ rest)
first_slices_pass h [] rest n k o a = absurd (n refl)
first_slices_pass h (s ∷ ss) rest n k o a = (Slices h (s.code + 1), first_slice k.0 (λ w. ((o w).0, (o w).1)), refl, slices_pass h (s.code + 1) ss rest k.1 (λ w. (o w).2) a)

extras_pass : (h : SliceRule) (xs : List StreamUnit) (rest : List Placed) → All (PictureExtra) xs → Accepts (InPicture h) rest → Accepts (InPicture h) (map (placed scope.Picture) xs ++ rest)
extras_pass h [] rest k a = a
extras_pass h (x ∷ xs) rest k a = (InPicture h, extra k.0, refl, extras_pass h xs rest k.1 a)

picture_passes : (h : SliceRule) (p : Picture) (rest : List Placed) → IsPicture h p → ((m : ℕ) → Accepts (Slices h m) rest)
    → Accepts (InPicture h) (map (placed scope.Picture) p.extras ++ (map (placed scope.Picture) p.slices ++ rest))
picture_passes h p rest k a = extras_pass h p.extras _ k.extras (first_slices_pass h p.slices rest k.some_slice k.slices (λ w. rising_from_zero h.rows p.slices (k.order w)) a)

pictures_pass : (h : SliceRule) (n : ℕ) (ps : List Picture) (rest : List Placed) → All (IsPicture h) ps → ((m : ℕ) → Accepts (Slices h m) rest) → Accepts (Slices h n) (concat_map placed_picture ps ++ rest)
pictures_pass h n [] rest k a = a n
pictures_pass h n (p ∷ ps) rest k a = subst (Accepts (Slices h n)) (sym (pictures_marks p ps rest))
    (InPicture h, next_picture k.0.kind k.0.body, refl, picture_passes h p _ k.0 (λ m. pictures_pass h m ps rest k.1 a))

first_pictures_pass : (h : SliceRule) (d : Bool) (ps : List Picture) (rest : List Placed) → FirstIsI ps → All (IsPicture h) ps → ((m : ℕ) → Accepts (Slices h m) rest)
    → Accepts (Head h d) (concat_map placed_picture ps ++ rest)
first_pictures_pass h d [] rest i k a = absurd i
first_pictures_pass h d (p ∷ ps) rest i k a = subst (Accepts (Head h d)) (sym (pictures_marks p ps rest))
    (InPicture h, first_picture i k.0.body, rw i refl, picture_passes h p _ k.0 (λ m. pictures_pass h m ps rest k.1 a))

head_extras_pass : (h : SliceRule) (d : Bool) (xs : List StreamUnit) (rest : List Placed) → All (HeadExtra) xs → AtMostOne (DisplayUnit) xs → (d ≡ true → All (λ u. ¬ DisplayUnit u) xs)
    → ((d : Bool) → Accepts (Head h d) rest) → Accepts (Head h d) (map (placed scope.Head) xs ++ rest)
head_extras_pass h d [] rest k one none a = a d
head_extras_pass h d (x ∷ xs) rest k one none a = by_kind d k.0 none (λ d none. head_extras_pass h d xs rest k.1 one.1 none a)
  where
    Tail : Bool → Type 0
    Tail d = (d ≡ true → All (λ u. ¬ DisplayUnit u) xs) → Accepts (Head h d) (map (placed scope.Head) xs ++ rest)

    by_number : (d : Bool) → Dec (HasNumber x.body 2) → IsKind kind.Extension x → Extension x.body → (HasNumber x.body 2 → IsDisplay x.body)
        → (d ≡ true → All (λ u. ¬ DisplayUnit u) (x ∷ xs)) → ((d : Bool) → Tail d) → Accepts (Head h d) (map (placed scope.Head) (x ∷ xs) ++ rest)
    by_number false (yes n) c e g none t = (Head h true, display c e n (g n), rw c refl, t true (λ z. one.0 (c, n)))
    by_number true (yes n) c e g none t = absurd ((none refl).0 (c, n))
    by_number d (no n) c e g none t = (Head h d, extension c e n, rw c refl, t d (λ z. (none z).1))

    by_kind : (d : Bool) → HeadExtra x → (d ≡ true → All (λ u. ¬ DisplayUnit u) (x ∷ xs)) → ((d : Bool) → Tail d) → Accepts (Head h d) (map (placed scope.Head) (x ∷ xs) ++ rest)
    by_kind d (inl c) none t = (Head h d, user c, rw c refl, t d (λ z. (none z).1))
    by_kind d (inr k) none t = by_number d (two_or_not x.body) k.0 k.1 k.2 none t

group_passes : (g : Group) (rest : List Placed) (k : IsGroup g) → ((h : SliceRule) (n : ℕ) → Accepts (Slices h n) rest)
    → Accepts (Head (slice_rule k.header) false) (map (placed scope.Head) g.extras ++ (concat_map placed_picture g.pictures ++ rest))
group_passes g rest k a = head_extras_pass _ false g.extras _ k.extras k.one_display no_false
    (λ d. first_pictures_pass _ d g.pictures rest k.first k.pictures (a _))

groups_pass : (h : SliceRule) (n : ℕ) (gs : List Group) (e : List StreamUnit) → All (IsGroup) gs → IsEnding e → Accepts (Slices h n) (concat_map placed_group gs ++ map (placed scope.Picture) e)
groups_pass h n [] e k i = ending_passes h n e i
groups_pass h n (g ∷ gs) e k i = subst (Accepts (Slices h n)) (sym (groups_marks g gs (map (placed scope.Picture) e)))
    (Head (slice_rule k.0.header) false, next_sequence k.0.kind k.0.body, refl, group_passes g _ k.0 (λ h n. groups_pass h n gs e k.1 i))

pub complete : (gs : List Group) (e : List StreamUnit) → gs ≢ [] → All (IsGroup) gs → IsEnding e → Accepts Start (concat_map placed_group gs ++ map (placed scope.Picture) e)
complete [] e n k i = absurd (n refl)
complete (g ∷ gs) e n k i = subst (Accepts Start) (sym (groups_marks g gs (map (placed scope.Picture) e)))
    (Head (slice_rule k.0.header) false, sequence k.0.kind k.0.body, refl, group_passes g _ k.0 (λ h n. groups_pass h n gs e k.1 i))
