-- Which units of a reading are sequence headers: the first of each group, and no other.
use Prim.Native.Nat.{ℕ}
use mathlib.Core.Path.{◌≡◌, refl, sym, ◌∙◌, ap, subst}
use mathlib.Core.Logic.{inl, inr}
use mathlib.Core.List.{List, [], ◌∷◌, ◌++◌}
use mathlib.Core.Bool.{false}
use Rattle.bits.specs.Lists.{All}
use Rattle.bits.proofs.ListLaws.{all_append, all_map}
use Rattle.startcode.specs.declared.Kind.{Kind}
use Rattle.startcode.specs.declared.Kind.TheVariants as kind
use Rattle.grammar.specs.Lists.{concat_map}
use Rattle.grammar.specs.Grammar.{StreamUnit, bytes, IsKind, Picture, Group, Reading, picture_units, group_units, units, PictureExtra, HeadExtra, IsSlice, IsPictureHead, IsPicture, IsGroup, IsEnding, Reads, slice_rule}
use Rattle.grammar.specs.Reader.{same_kind}
use Rattle.grammar.specs.Refusals.{HasCode}
use Rattle.grammar.specs.declared.SliceRule.{SliceRule}

-- a unit of another kind than a sequence header
abbrev pub OtherKind : StreamUnit → Type 0
OtherKind u = (k : Kind) × IsKind k u × (same_kind k kind.SequenceHeader ≡ false)

head_other : (u : StreamUnit) → HeadExtra u → OtherKind u
head_other u (inl c) = (kind.UserData, c, refl)
head_other u (inr h) = (kind.Extension, h.0, refl)

extra_other : (u : StreamUnit) → PictureExtra u → OtherKind u
extra_other u (inl c) = (kind.UserData, c, refl)
extra_other u (inr h) = (kind.Extension, h.0, refl)

first_other : (u : StreamUnit) → IsPictureHead u → OtherKind u
first_other u (inl c) = (kind.IPicture, c, refl)
first_other u (inr c) = (kind.PBPicture, c, refl)

slice_other : (u : StreamUnit) → IsSlice u → OtherKind u
slice_other u h = (kind.Slice, h.0, refl)

picture_other : (rule : SliceRule) (p : Picture) → IsPicture rule p → All OtherKind (picture_units p)
picture_other rule p h = (first_other p.head h.kind, all_append OtherKind p.extras p.slices (all_map extra_other p.extras h.extras) (all_map slice_other p.slices h.slices))

pictures_other : (rule : SliceRule) (ps : List Picture) → All (IsPicture rule) ps → All OtherKind (concat_map picture_units ps)
pictures_other rule [] h = tt
pictures_other rule (p ∷ ps) h = all_append OtherKind (picture_units p) (concat_map picture_units ps) (picture_other rule p h.0) (pictures_other rule ps h.1)

-- what follows the header of a group
abbrev pub tail_of : Group → List StreamUnit
tail_of g = g.extras ++ concat_map picture_units g.pictures

pub tail_other : (g : Group) → IsGroup g → All OtherKind (tail_of g)
tail_other g h = all_append OtherKind g.extras (concat_map picture_units g.pictures) (all_map head_other g.extras h.extras) (pictures_other (slice_rule h.header) g.pictures h.pictures)

pub ending_other : (e : List StreamUnit) → IsEnding e → All OtherKind e
ending_other [] h = absurd h
ending_other (e ∷ []) (inl h) = ((kind.SequenceEnd, h.0, refl), tt)
ending_other (e ∷ []) (inr h) = ((kind.EditCode, h.0, refl), tt)
ending_other (e ∷ f ∷ []) h = ((kind.SequenceEnd, h.0.0, refl), ((kind.EditCode, h.1.0, refl), tt))
ending_other (e ∷ f ∷ g ∷ more) h = absurd h

-- ── the first unit of a reading ──

pub record First (r : Reading) : Type 0 where
  pub unit : StreamUnit
  pub after : List StreamUnit
  pub all : units r ≡ unit ∷ after
  pub header : IsKind kind.SequenceHeader unit

pub first_unit : (s : List ℕ) (r : Reading) → Reads s r → First r
first_unit s r h = by_groups r.groups refl
  where
    by_groups : (gs : List Group) → r.groups ≡ gs → First r
    by_groups [] e = absurd (h.some_group e)
    by_groups (g ∷ gs) e =
        let all : All IsGroup (g ∷ gs) = subst (All IsGroup) e h.groups in
        record { unit = g.head; after = _; all = ap (λ (l : List Group). concat_map group_units l ++ r.ending) e; header = all.0.kind }

pub reads_code : (s : List ℕ) (r : Reading) → Reads s r → HasCode s
reads_code s r h = (_, sym h.stream_is ∙ ap (concat_map bytes) (first_unit s r h).all)
