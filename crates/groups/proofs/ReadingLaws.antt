-- What is read in a group of a reading is what the grammar says of it.
use Rattle.std.proofs.Common.{Option, Some, None}
use Prim.Native.Nat.{ℕ, zero, suc, ◌≤◌}
use mathlib.Core.Path.{◌≡◌, refl, sym, ◌∙◌, ap, subst}
use mathlib.Core.Logic.{inl, inr, ◌↔◌}
use mathlib.Core.List.{List, [], ◌∷◌, ◌++◌, append_assoc}
use mathlib.Core.Bool.{true, false}
use native.Mathlib.Omega.{arith}
use lib.ListN.{length}
use Rattle.answers.specs.Answers.{Outcome, done, refused, NO_ROW}
use Rattle.answers.proofs.OutcomeLaws.{not_done, not_refused, done_one}
use Rattle.bits.specs.Lists.{All}
use Rattle.bits.proofs.ListLaws.{all_map, absent}
use Rattle.bits.proofs.TestLaws.{by_test}
use Rattle.startcode.specs.declared.Kind.TheVariants as kind
use Rattle.bodies.specs.Answers.{answer_of}
use Rattle.bodies.specs.declared.ExtensionBody.{ExtensionBody}
use Rattle.bodies.specs.declared.ExtensionBody.TheVariants as extensionBody
use Rattle.bodies.specs.Extensions.{HasNumber, numbered}
use Rattle.bodies.specs.Bodies.{DisplayBody, plain, coloured}
use Rattle.bodies.specs.Reader.{header_of, extension_of}
use Rattle.bodies.specs.declared.DisplayExtension.{DisplayExtension}
use Rattle.bodies.specs.declared.Scope.TheVariants as scope
use Rattle.bodies.specs.declared.SequenceHeader.{SequenceHeader}
use Rattle.bodies.proofs.ExtensionLaws.{plain_made, coloured_made}
use Rattle.bodies.proofs.Main.{display_iff}
use Rattle.grammar.specs.Lists.{AtMostOne, concat_map}
use Rattle.grammar.specs.Grammar.{StreamUnit, IsKind, Picture, Group, picture_units, group_units, IsHeader, IsDisplay, HeadExtra, DisplayUnit, FirstIsI, IsGroup, IsEnding}
use Rattle.grammar.specs.Reader.{is_kind}
use Rattle.grammar.proofs.KindLaws.{apart}
use Rattle.grammar.proofs.BodyLaws.{header_good}
use Rattle.grammar.proofs.HeaderLaws.{OtherKind, tail_of, tail_other, ending_other}
use Rattle.grammar.proofs.Division.{number_two, number_not_two}
use Rattle.groups.specs.Groups.{GroupRecord, DisplayIs, GroupIs, NthGroup}
use Rattle.groups.specs.Reader.{shown, in_head, display_in, group_of, begins_group, group_in}

-- ── units that begin no group ──

abbrev NoHeader : StreamUnit → Type 0
NoHeader u = begins_group u ≡ false

no_header : (u : StreamUnit) → OtherKind u → NoHeader u
no_header u o = ap (is_kind kind.SequenceHeader) o.1 ∙ o.2

past_other : (g : ℕ) (u : StreamUnit) (us : List StreamUnit) → NoHeader u → group_in g (u ∷ us) ≡ group_in g us
unfolding group_in
past_other zero u us h = rw h
past_other (suc g) u us h = rw h

skip_all : (g : ℕ) (us vs : List StreamUnit) → All NoHeader us → group_in g (us ++ vs) ≡ group_in g vs
skip_all g [] vs h = refl
skip_all g (u ∷ us) vs h = past_other g u (us ++ vs) h.0 ∙ skip_all g us vs h.1

ending_no : (e : List StreamUnit) → IsEnding e → All NoHeader e
ending_no e h = all_map no_header e (ending_other e h)

no_group : (g : ℕ) (us : List StreamUnit) → All NoHeader us → group_in g us ≡ refused NO_ROW []
unfolding group_in
no_group g [] h = refl
no_group g (u ∷ us) h = past_other g u us h.0 ∙ no_group g us h.1

-- ── a group's head ──

past : (u : StreamUnit) (us : List StreamUnit) → IsKind kind.IPicture u → display_in (u ∷ us) ≡ None
unfolding display_in
past u us c = ap (λ o. in_head o u.body (display_in us)) c

-- the first picture ends the head
pictures_past : (ps : List Picture) (rest : List StreamUnit) → FirstIsI ps → display_in (concat_map picture_units ps ++ rest) ≡ None
pictures_past [] rest f = absurd f
pictures_past (p ∷ ps) rest f = past p.head _ f

-- the number of a display extension's body is 2
display_two : (body : List ℕ) (d : DisplayExtension) → DisplayBody body d → numbered 2 body ≡ true
display_two body d (plain n c vs o r) = n.bits
display_two body d (coloured n c vs o r) = n.bits

-- an extension that is no display extension
shown_other : (o : Outcome ExtensionBody) (rest : Option DisplayExtension) → ((d : DisplayExtension) → o ≡ done (extensionBody.Display d) → ⊥) → shown o rest ≡ rest
shown_other (done (extensionBody.Display d)) rest n = absurd (n d refl)
shown_other (done (extensionBody.Copyright c)) rest n = refl
shown_other (done (extensionBody.Opaque number)) rest n = refl
shown_other (refused number carried) rest n = refl

other : (u : StreamUnit) (us : List StreamUnit) → HeadExtra u → ¬ DisplayUnit u → display_in (u ∷ us) ≡ display_in us
unfolding display_in
other u us (inl c) n = ap (λ o. in_head o u.body (display_in us)) c
other u us (inr h) n =
    ap (λ o. in_head o u.body (display_in us)) h.0
    ∙ shown_other (extension_of scope.Head u.body) (display_in us)
    (λ d e. n (h.0, (number_two u.body).0 (display_two u.body d ((display_iff scope.Head u.body d).0 e).1)))

-- a display extension
display_unit : (u : StreamUnit) (us : List StreamUnit) (d : DisplayExtension) → DisplayUnit u → DisplayBody u.body d → display_in (u ∷ us) ≡ Some d
unfolding display_in
display_unit u us d h b =
    ap (λ o. in_head o u.body (display_in us)) h.0
    ∙ ap (λ (o : Outcome ExtensionBody). shown o (display_in us)) ((display_iff scope.Head u.body d).1 (refl, b))

-- none of the head's units is one
none_shown : (extras tail : List StreamUnit) → display_in tail ≡ None → All HeadExtra extras → All (λ u. ¬ DisplayUnit u) extras → display_in (extras ++ tail) ≡ None
none_shown [] tail t h n = t
none_shown (u ∷ us) tail t h n = other u (us ++ tail) h.0 n.0 ∙ none_shown us tail t h.1 n.1

-- the one that is
one_shown : (before : List StreamUnit) (u : StreamUnit) (after tail : List StreamUnit) (d : DisplayExtension) → All HeadExtra (before ++ u ∷ after) → AtMostOne DisplayUnit (before ++ u ∷ after) →
    DisplayUnit u → DisplayBody u.body d → display_in ((before ++ u ∷ after) ++ tail) ≡ Some d
one_shown [] u after tail d h o k b = display_unit u (after ++ tail) d k b
one_shown (x ∷ xs) u after tail d h o k b =
    other x ((xs ++ u ∷ after) ++ tail) h.0 (λ i. absent DisplayUnit xs u after (o.0 i) k) ∙ one_shown xs u after tail d h.1 o.1 k b

pub display_is : (extras tail : List StreamUnit) (d : Option DisplayExtension) → display_in tail ≡ None → All HeadExtra extras → AtMostOne DisplayUnit extras → DisplayIs extras d → display_in (extras ++ tail) ≡ d
display_is extras tail (Some d) t h o k =
    let e = k.is in
    ap (λ (l : List StreamUnit). display_in (l ++ tail)) e
    ∙ one_shown k.before k.unit k.after tail d (subst (All HeadExtra) e h) (subst (AtMostOne DisplayUnit) e o) k.display k.body
display_is extras tail None t h o k = none_shown extras tail t h k

-- a head has a display extension or none
display_of_lem : (body : List ℕ) → HasNumber body 2 → IsDisplay body → (d : DisplayExtension) × DisplayBody body d
display_of_lem body n (vs, inl (c, h)) = let m = plain_made vs h.fits in (m.0, plain n c vs h m.1)
display_of_lem body n (vs, inr (c, h)) = let m = coloured_made vs h.fits in (m.0, coloured n c vs h m.1)

not_this : (u : StreamUnit) (us : List StreamUnit) → ¬ DisplayUnit u → (d : Option DisplayExtension) → DisplayIs us d → DisplayIs (u ∷ us) d
not_this u us n (Some d) k = record { before = u ∷ k.before; unit = k.unit; after = k.after; is = ap (λ (l : List StreamUnit). u ∷ l) k.is; display = k.display; body = k.body }
not_this u us n None k = (n, k)

this : (u : StreamUnit) (us : List StreamUnit) → HeadExtra u → DisplayUnit u → (d : Option DisplayExtension) × DisplayIs (u ∷ us) d
this u us (inl c) k = apart kind.UserData kind.Extension refl c k.0
this u us (inr h) k = let m = display_of_lem u.body k.1 (h.2 k.1) in (Some m.0, record { before = []; unit = u; after = us; is = refl; display = k; body = m.1 })

display_or_not : (u : StreamUnit) → HeadExtra u → Dec (DisplayUnit u)
display_or_not u (inl c) = no (λ k. apart kind.UserData kind.Extension refl c k.0)
display_or_not u (inr h) = by_test (numbered 2 u.body) (λ t. yes (h.0, (number_two u.body).0 t)) (λ f. no (λ k. (number_not_two u.body).0 f k.1))

some_display : (extras : List StreamUnit) → All HeadExtra extras → (d : Option DisplayExtension) × DisplayIs extras d
some_display [] h = (None, tt)
some_display (u ∷ us) h = by_dec (display_or_not u h.0) (some_display us h.1)
  where
    by_dec : Dec (DisplayUnit u) → (d : Option DisplayExtension) × DisplayIs us d → (d : Option DisplayExtension) × DisplayIs (u ∷ us) d
    by_dec (yes k) r = this u us h.0 k
    by_dec (no n) r = (r.0, not_this u us n r.0 r.1)

-- ── a group ──

header_read : (body : List ℕ) (header : SequenceHeader) → IsHeader body header → header_of body ≡ done header
unfolding header_of answer_of
header_read body header h = ap answer_of ((header_good body header).1 h)

some_record : (group : Group) → IsGroup group → (x : GroupRecord) × GroupIs group x
some_record group h = let d = some_display group.extras h.extras in (record { header = h.header; display = d.0 }, record { header = h.body; display = d.1 })

-- what follows the header of a group begins no group
module _ (group : Group) (h : IsGroup group) (rest : List StreamUnit) where
  abbrev body : List StreamUnit
  body = tail_of group

  body_no : All NoHeader body
  body_no = all_map no_header body (tail_other group h)

  heads : begins_group group.head ≡ true
  heads = ap (is_kind kind.SequenceHeader) h.kind

  group_skip : (g : ℕ) → group_in (suc g) (group_units group ++ rest) ≡ group_in g rest
  unfolding group_in
  group_skip g = rw heads (skip_all g body rest body_no)

  group_here : (x : GroupRecord) → GroupIs group x → group_in zero (group_units group ++ rest) ≡ done x
  unfolding group_in
  group_here x k =
      rw heads
      (ap (λ (o : Outcome SequenceHeader). group_of o (display_in (body ++ rest))) (header_read group.head.body x.header k.header)
      ∙ ap (λ (d : Option DisplayExtension). done (record { header = x.header; display = d }))
      (ap display_in (append_assoc group.extras (concat_map picture_units group.pictures) rest)
      ∙ display_is group.extras (concat_map picture_units group.pictures ++ rest) x.display (pictures_past group.pictures rest h.first) h.extras h.one_display k.display))

-- ── all groups ──

later : (g : ℕ) (first : Group) (gs : List Group) (group : Group) → NthGroup g gs group → NthGroup (suc g) (first ∷ gs) group
later g first gs group n = record { before = first ∷ n.before; after = n.after; is = ap (λ (l : List Group). first ∷ l) n.is; count = ap suc n.count }

-- group 0 is the first, and the others are those after it
nth_first : (first : Group) (gs : List Group) (group : Group) → NthGroup zero (first ∷ gs) group → first ≡ group
nth_first first gs group n = by_before n.before n.is n.count
  where
    by_before : (b : List Group) → first ∷ gs ≡ b ++ group ∷ n.after → length b ≡ 0 → first ≡ group
    by_before [] i c = cc
    by_before (x ∷ b) i c = absurd (omega arith)

nth_later : (g : ℕ) (first : Group) (gs : List Group) (group : Group) → NthGroup (suc g) (first ∷ gs) group → NthGroup g gs group
nth_later g first gs group n = by_before n.before n.is n.count
  where
    by_before : (b : List Group) → first ∷ gs ≡ b ++ group ∷ n.after → length b ≡ suc g → NthGroup g gs group
    by_before [] i c = absurd (omega arith)
    by_before (x ∷ b) i c = record { before = b; after = n.after; is = cc; count = omega arith }

nth_none : {P : Type 0} (g : ℕ) (group : Group) → NthGroup g [] group → P
nth_none g group n = by_before n.before n.is
  where
    by_before : {P : Type 0} (b : List Group) → [] ≡ b ++ group ∷ n.after → P
    by_before [] i = let z : ◌≡◌ {A = ℕ} 0 1 = cc (ap length i) in absurd (omega arith)
    by_before (x ∷ b) i = let z : ◌≡◌ {A = ℕ} 0 1 = cc (ap length i) in absurd (omega arith)

module _ (e : List StreamUnit) (ending : IsEnding e) where
  abbrev all : List Group → List StreamUnit
  all gs = concat_map group_units gs ++ e

  more : (g : ℕ) (a : Group) (gs : List Group) → group_in g (all (a ∷ gs)) ≡ group_in g (group_units a ++ all gs)
  more g a gs = ap (group_in g) (append_assoc (group_units a) (concat_map group_units gs) e)

  pub number_given : (g : ℕ) (gs : List Group) → All IsGroup gs → (x : GroupRecord) → group_in g (all gs) ≡ done x → (group : Group) × NthGroup g gs group × GroupIs group x
  number_given g [] h x f = not_done (sym (no_group g e (ending_no e ending)) ∙ f)
  number_given zero (a ∷ gs) h x f =
      let y = some_record a h.0 in
      let s : y.0 ≡ x = done_one (sym (more zero a gs ∙ group_here a h.0 (all gs) y.0 y.1) ∙ f) in
      (a, record { before = []; after = gs; is = refl; count = refl }, subst (GroupIs a) s y.1)
  number_given (suc g) (a ∷ gs) h x f =
      let r = number_given g gs h.1 x (sym (more (suc g) a gs ∙ group_skip a h.0 (all gs) g) ∙ f) in
      (r.0, later g a gs r.0 r.1, r.2)

  pub given_number : (g : ℕ) (gs : List Group) → All IsGroup gs → (x : GroupRecord) (group : Group) → NthGroup g gs group → GroupIs group x → group_in g (all gs) ≡ done x
  given_number g [] h x group n k = nth_none g group n
  given_number zero (a ∷ gs) h x group n k = more zero a gs ∙ group_here a h.0 (all gs) x (subst (λ (b : Group). GroupIs b x) (sym (nth_first a gs group n)) k)
  given_number (suc g) (a ∷ gs) h x group n k = more (suc g) a gs ∙ group_skip a h.0 (all gs) g ∙ given_number g gs h.1 x group (nth_later g a gs group n) k

  pub no_number : (g : ℕ) (gs : List Group) → All IsGroup gs → (group_in g (all gs) ≡ refused NO_ROW []) ↔ (length gs ≤ g)
  no_number g [] h = ((λ f. omega arith), λ l. no_group g e (ending_no e ending))
  no_number zero (a ∷ gs) h =
      let y = some_record a h.0 in
      ((λ f. not_refused (sym (more zero a gs ∙ group_here a h.0 (all gs) y.0 y.1) ∙ f)), λ l. absurd (omega arith))
  no_number (suc g) (a ∷ gs) h =
      let r = no_number g gs h.1 in
      let i = more (suc g) a gs ∙ group_skip a h.0 (all gs) g in
      ((λ f. let l = r.0 (sym i ∙ f) in omega arith), λ l. i ∙ r.1 (omega arith))
