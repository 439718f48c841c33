-- Two readings of one stream are the same.
use Prim.Native.Nat.{ℕ}
use mathlib.Core.Path.{◌≡◌, refl, sym, ◌∙◌}
use mathlib.Core.Logic.{◌≢◌, ◌⊎◌, inl, inr}
use mathlib.Core.List.{List, [], ◌∷◌, ◌++◌, append_assoc, append-nil}
use native.Mathlib.Omega.{arith}
use Rattle.answers.specs.Answers.{Outcome, done, refused}
use Rattle.bits.specs.Lists.{All}
use Rattle.bits.proofs.ListLaws.{all_map}
use Rattle.startcode.specs.Kinds.{kind_of}
use Rattle.startcode.specs.declared.Kind.{Kind}
use Rattle.startcode.specs.declared.Kind.TheVariants as kind
use Rattle.grammar.specs.Lists.{concat_map}
use Rattle.grammar.specs.declared.SliceRule.{SliceRule}
use Rattle.grammar.specs.Grammar.{StreamUnit, bytes, Alone, Picture, Reading, picture_units, group_units, units, IsPicture, IsGroup, IsEnding, Reads, PictureExtra, HeadExtra, IsSlice, FirstIsI}
use Rattle.grammar.proofs.KindLaws.{apart}
use Rattle.grammar.specs.Reader.{same_kind}
use mathlib.Core.Bool.{false}

-- ── units ──

-- of two lists that begin one list, one begins the other
pub record Shorter {A : Type 0} (a x b y : List A) : Type 0 where
  pub mid : List A
  pub longer : b ≡ a ++ mid
  pub rest : x ≡ mid ++ y

pub compare_prefixes : {A : Type 0} (a x b y : List A) → a ++ x ≡ b ++ y → Shorter a x b y ⊎ Shorter b y a x
compare_prefixes [] x b y e = inl (record { mid = b; longer = refl; rest = e })
compare_prefixes (c ∷ a) x [] y e = inr (record { mid = c ∷ a; longer = refl; rest = sym e })
compare_prefixes (c ∷ a) x (d ∷ b) y e = elim (compare_prefixes a x b y (cc)) [ inl s ↦ inl (record { mid = s.mid; longer = cc; rest = s.rest }) | inr s ↦ inr (record { mid = s.mid; longer = cc; rest = s.rest }) ]

-- where a 00 00 01 stands so many bytes before units, these bytes are none, or begin with it
pub code_between : (mid after : List ℕ) (vs : List StreamUnit) → 0 ∷ 0 ∷ 1 ∷ after ≡ mid ++ concat_map bytes vs → (mid ≡ []) ⊎ ((more : List ℕ) × (mid ≡ 0 ∷ 0 ∷ 1 ∷ more))
code_between [] after vs e = inl refl
code_between (a ∷ []) after [] e = let z : ◌≡◌ {A = ℕ} 0 1 = cc in absurd (omega arith)
code_between (a ∷ []) after (v ∷ vs) e = let z : ◌≡◌ {A = ℕ} 0 1 = cc in absurd (omega arith)
code_between (a ∷ b ∷ []) after [] e = let z : ◌≡◌ {A = ℕ} 0 1 = cc in absurd (omega arith)
code_between (a ∷ b ∷ []) after (v ∷ vs) e = let z : ◌≡◌ {A = ℕ} 0 1 = cc in absurd (omega arith)
code_between (a ∷ b ∷ c ∷ m) after vs e = inr (m, cc)

-- what stands between two places where units begin is nothing, or begins with 00 00 01
between : (mid : List ℕ) (us vs : List StreamUnit) → concat_map bytes us ≡ mid ++ concat_map bytes vs → (mid ≡ []) ⊎ ((after : List ℕ) × (mid ≡ 0 ∷ 0 ∷ 1 ∷ after))
between [] [] vs e = inl refl
between (a ∷ m) [] vs e = let z : ◌≡◌ {A = ℕ} 0 1 = cc in absurd (omega arith)
between mid (u ∷ us) vs e = code_between mid (u.code ∷ u.body ++ concat_map bytes us) vs e

-- a unit that begins another unit is all of it
whole : (u v : StreamUnit) (us vs : List StreamUnit) → Alone v → Shorter (bytes u) (concat_map bytes us) (bytes v) (concat_map bytes vs) → (u ≡ v) × (concat_map bytes us ≡ concat_map bytes vs)
whole u v us vs av s = elim (between s.mid us vs s.rest) [
  | inl none ↦ (let l = s.longer in let b : u.body ≡ v.body = sym (append-nil u.body) ∙ (cc) in (λ i. record { code = code i; body = b i }), s.rest ∙ rw none)
  | inr m ↦ let z : ◌≡◌ {A = List ℕ} (bytes u) [] = av (bytes u) m.0 (s.longer ∙ rw m.1) in let n : ◌≡◌ {A = ℕ} 0 1 = cc in absurd (omega arith)
]
  where
    code : u.code ≡ v.code
    code = let l = s.longer in cc

pub same_units : (us vs : List StreamUnit) → All Alone us → All Alone vs → concat_map bytes us ≡ concat_map bytes vs → us ≡ vs
same_units [] [] au av e = refl
same_units [] (v ∷ vs) au av e = cc
same_units (u ∷ us) [] au av e = cc
same_units (u ∷ us) (v ∷ vs) au av e =
    let w : (u ≡ v) × (concat_map bytes us ≡ concat_map bytes vs) = elim (compare_prefixes (bytes u) (concat_map bytes us) (bytes v) (concat_map bytes vs) e) [
      | inl s ↦ whole u v us vs av.0 s
      | inr s ↦ let r = whole v u vs us au.0 s in (sym r.0, sym r.1)
    ] in
    let t = same_units us vs au.1 av.1 w.1 in
    let h = w.0 in
    cc

-- ── the division ──

-- the first unit's kind; an end has none
top : List StreamUnit → Outcome Kind
top [] = refused 0 []
top (u ∷ us) = kind_of u.code

-- parts of kind Ok, each followed by what Next allows, are told apart from what follows
SplitsOnce : {A : Type 0} → (A → List StreamUnit) → (A → Type 0) → (Outcome Kind → Type 0) → Type 0
SplitsOnce {A} f Ok Next = (a b : A) (x y : List StreamUnit) → Ok a → Ok b → Next (top x) → Next (top y) → f a ++ x ≡ f b ++ y → (a ≡ b) × (x ≡ y)

run : (P : Outcome Kind → Type 0) → SplitsOnce (λ us. us) (All (λ u. P (kind_of u.code))) (λ o. ¬ P o)
unfolding SplitsOnce top
run P [] [] x y ha hb nx ny e = (refl, e)
run P [] (v ∷ b) x y ha hb nx ny e = absurd (nx (rw e hb.0))
run P (u ∷ a) [] x y ha hb nx ny e = absurd (ny (rw (sym e) ha.0))
run P (u ∷ a) (v ∷ b) x y ha hb nx ny e = let r = run P a b x y ha.1 hb.1 nx ny (cc) in let p = r.0 in (cc, r.1)

module _ {A : Type 0} (f : A → List StreamUnit) (Ok : A → Type 0) (Start Next Follow : Outcome Kind → Type 0)
    (split : SplitsOnce f Ok Next) (starts : (a : A) (x : List StreamUnit) → Ok a → Start (top (f a ++ x)))
    (start-next : (o : Outcome Kind) → Start o → Next o) (follow-next : (o : Outcome Kind) → Follow o → Next o) (clash : (o : Outcome Kind) → Follow o → Start o → ⊥) where
  next : (l : List A) (x : List StreamUnit) → All Ok l → Follow (top x) → Next (top (concat_map f l ++ x))
  next [] x h n = follow-next (top x) n
  next (a ∷ l) x h n = rw append_assoc (start-next _ (starts a (concat_map f l ++ x) h.0))

  many : SplitsOnce (concat_map f) (All Ok) Follow
  unfolding SplitsOnce
  many [] [] x y ha hb nx ny e = (refl, e)
  many [] (b ∷ bs) x y ha hb nx ny e = absurd (clash _ nx (rw (e, append_assoc) (starts b (concat_map f bs ++ y) hb.0)))
  many (a ∷ as') [] x y ha hb nx ny e = absurd (clash _ ny (rw (sym e, append_assoc) (starts a (concat_map f as' ++ x) ha.0)))
  many (a ∷ as') (b ∷ bs) x y ha hb nx ny e =
      let d = split a b (concat_map f as' ++ x) (concat_map f bs ++ y) ha.0 hb.0 (next as' x ha.1 nx) (next bs y hb.1 ny) (simp append_assoc at e) in
      let r = many as' bs x y ha.1 hb.1 nx ny d.1 in
      let p = d.0 in let q = r.0 in
      (cc, r.1)

-- kinds of unit
abbrev Extra : Outcome Kind → Type 0
Extra o = (o ≡ done kind.UserData) ⊎ (o ≡ done kind.Extension)

abbrev Slice : Outcome Kind → Type 0
Slice o = o ≡ done kind.Slice

abbrev PictureHead : Outcome Kind → Type 0
PictureHead o = (o ≡ done kind.IPicture) ⊎ (o ≡ done kind.PBPicture)

abbrev AfterGroup : Outcome Kind → Type 0
AfterGroup o = (¬ Slice o) × (¬ PictureHead o)

abbrev AfterGroups : Outcome Kind → Type 0
AfterGroups o = AfterGroup o × (o ≢ done kind.SequenceHeader)

slice_no_extra : (o : Outcome Kind) → Slice o → ¬ Extra o
slice_no_extra o s (inl e) = apart kind.Slice kind.UserData refl s e
slice_no_extra o s (inr e) = apart kind.Slice kind.Extension refl s e

picture_no_extra : (o : Outcome Kind) → PictureHead o → ¬ Extra o
picture_no_extra o (inl p) (inl e) = apart kind.IPicture kind.UserData refl p e
picture_no_extra o (inl p) (inr e) = apart kind.IPicture kind.Extension refl p e
picture_no_extra o (inr p) (inl e) = apart kind.PBPicture kind.UserData refl p e
picture_no_extra o (inr p) (inr e) = apart kind.PBPicture kind.Extension refl p e

picture_no_slice : (o : Outcome Kind) → PictureHead o → ¬ Slice o
picture_no_slice o (inl p) s = apart kind.IPicture kind.Slice refl p s
picture_no_slice o (inr p) s = apart kind.PBPicture kind.Slice refl p s

-- where neither slices nor pictures go on, by a kind that is neither
after_group_lem : (o : Outcome Kind) (k : Kind) → o ≡ done k → same_kind k kind.Slice ≡ false → same_kind k kind.IPicture ≡ false → same_kind k kind.PBPicture ≡ false → AfterGroup o
after_group_lem o k e s i p = ((λ f. apart k kind.Slice s e f), λ f. elim f [ inl g ↦ apart k kind.IPicture i e g | inr g ↦ apart k kind.PBPicture p e g ])

APicture : Picture → Type 0
APicture p = (rule : SliceRule) × IsPicture rule p

picture_extra : (u : StreamUnit) → PictureExtra u → Extra (kind_of u.code)
picture_extra u (inl e) = inl e
picture_extra u (inr e) = inr e.0

head_extra : (u : StreamUnit) → HeadExtra u → Extra (kind_of u.code)
head_extra u (inl e) = inl e
head_extra u (inr e) = inr e.0

slices_top : (ss : List StreamUnit) (x : List StreamUnit) → ss ≢ [] → All IsSlice ss → Slice (top (ss ++ x))
unfolding top
slices_top [] x ne h = absurd (ne refl)
slices_top (s ∷ ss) x ne h = h.0.0

picture_split : SplitsOnce picture_units APicture (λ o. ¬ Slice o)
unfolding SplitsOnce APicture
picture_split p q x y hp hq nx ny e =
    let r = run Extra p.extras q.extras (p.slices ++ x) (q.slices ++ y)
    (all_map picture_extra p.extras hp.1.extras) (all_map picture_extra q.extras hq.1.extras)
    (slice_no_extra _ (slices_top p.slices x hp.1.some_slice hp.1.slices))
    (slice_no_extra _ (slices_top q.slices y hq.1.some_slice hq.1.slices)) tails in
    let s = run Slice p.slices q.slices x y
    (all_map (λ u h. h.0) p.slices hp.1.slices) (all_map (λ u h. h.0) q.slices hq.1.slices) nx ny r.1 in
    ((λ i. record { head = heads i; extras = r.0 i; slices = s.0 i }), s.1)
  where
    heads : p.head ≡ q.head
    heads = cc

    tails : p.extras ++ (p.slices ++ x) ≡ q.extras ++ (q.slices ++ y)
    tails = cc (append_assoc p.extras p.slices x, append_assoc q.extras q.slices y)

pictures_split : SplitsOnce (concat_map picture_units) (All APicture) AfterGroup
unfolding APicture top
pictures_split = many picture_units APicture PictureHead (λ o. ¬ Slice o) AfterGroup picture_split
    (λ p x h. h.1.kind) picture_no_slice (λ o a. a.0) (λ o a. a.1)

first_top : (ps : List Picture) (x : List StreamUnit) → FirstIsI ps → PictureHead (top (concat_map picture_units ps ++ x))
unfolding top
first_top [] x h = absurd h
first_top (p ∷ ps) x h = inl h

group_split : SplitsOnce group_units (IsGroup) AfterGroup
unfolding SplitsOnce APicture
group_split g k x y hg hk nx ny e =
    let r = run Extra g.extras k.extras (concat_map picture_units g.pictures ++ x) (concat_map picture_units k.pictures ++ y)
    (all_map head_extra g.extras hg.extras) (all_map head_extra k.extras hk.extras)
    (picture_no_extra _ (first_top g.pictures x hg.first)) (picture_no_extra _ (first_top k.pictures y hk.first)) tails in
    let s = pictures_split g.pictures k.pictures x y
    (all_map (λ p h. (_, h)) g.pictures hg.pictures) (all_map (λ p h. (_, h)) k.pictures hk.pictures) nx ny r.1 in
    ((λ i. record { head = heads i; extras = r.0 i; pictures = s.0 i }), s.1)
  where
    heads : g.head ≡ k.head
    heads = cc

    tails : g.extras ++ (concat_map picture_units g.pictures ++ x) ≡ k.extras ++ (concat_map picture_units k.pictures ++ y)
    tails = cc (append_assoc g.extras (concat_map picture_units g.pictures) x, append_assoc k.extras (concat_map picture_units k.pictures) y)

groups_split : SplitsOnce (concat_map group_units) (All (IsGroup)) AfterGroups
unfolding top
groups_split = many group_units (IsGroup) (λ o. o ≡ done kind.SequenceHeader) AfterGroup AfterGroups group_split
    (λ g x h. h.kind) (λ o e. after_group_lem o kind.SequenceHeader e refl refl refl) (λ o e. e.0) (λ o e. e.1)

ending_top : (e : List StreamUnit) → IsEnding e → AfterGroups (top e)
unfolding top
ending_top [] h = absurd h
ending_top (e ∷ []) (inl h) = (after_group_lem _ kind.SequenceEnd h.0 refl refl refl, λ f. apart kind.SequenceEnd kind.SequenceHeader refl h.0 f)
ending_top (e ∷ []) (inr h) = (after_group_lem _ kind.EditCode h.0 refl refl refl, λ f. apart kind.EditCode kind.SequenceHeader refl h.0 f)
ending_top (e ∷ f ∷ []) h = (after_group_lem _ kind.SequenceEnd h.0.0 refl refl refl, λ f. apart kind.SequenceEnd kind.SequenceHeader refl h.0.0 f)
ending_top (e ∷ f ∷ g ∷ more) h = absurd h

pub same_reading : (stream : List ℕ) (r q : Reading) → Reads stream r → Reads stream q → r ≡ q
unfolding SplitsOnce
same_reading stream r q hr hq =
    let d = groups_split r.groups q.groups r.ending q.ending hr.groups hq.groups (ending_top _ hr.ending) (ending_top _ hq.ending)
    (same_units (units r) (units q) hr.alone hq.alone (hr.stream_is ∙ sym hq.stream_is)) in
    λ i. record { groups = d.0 i; ending = d.1 i }
