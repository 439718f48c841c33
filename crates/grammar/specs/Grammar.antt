-- Document 01, "Grammar of a stream", stated with no reader. (`Unit {0}` is the type with one element; a unit of document 01
-- is a `StreamUnit`.)
use Rattle.std.specs.Prelude.{ℕ, ◌<◌, ◌≡◌, ◌≢◌, ◌⊎◌, List, [], ◌∷◌, ◌++◌, true}
use Rattle.std.proofs.Math.Option.{some}
use Rattle.answers.specs.Answers.{done}
use Rattle.bits.specs.Lists.{All}
use Rattle.startcode.specs.Kinds.{kind_of}
use Rattle.startcode.specs.declared.Kind.{Kind}
use Rattle.startcode.specs.declared.Kind.TheVariants as kind
use Rattle.bodies.specs.Extensions.{HasNumber, ColourGiven}
use Rattle.layout.specs.Obeys.{Obeys}
use Rattle.bodies.specs.Records.{header_record}
use Rattle.layout.specs.declared.Layout.TheVariants.{Header, Display, Coloured, Copyright}
use Rattle.bodies.specs.declared.SequenceHeader.{SequenceHeader}
use Rattle.macroblocks.specs.Macroblocks.{macroblock_rows, slices_tested}
use Rattle.grammar.specs.Lists.{AtMostOne, concat_map}
use Rattle.grammar.specs.declared.SliceRule.{SliceRule}

-- ── units ──

-- 00 00 01, a code byte, and a body
pub record StreamUnit : Type 0 where
  pub code : ℕ
  pub body : List ℕ

abbrev pub bytes : StreamUnit → List ℕ
bytes u = 0 ∷ 0 ∷ 1 ∷ u.code ∷ u.body

-- its kind, by its code byte
abbrev pub IsKind : Kind → StreamUnit → Type 0
IsKind k u = kind_of u.code ≡ done k

-- it holds 00 00 01 nowhere but at its start
abbrev pub Alone : StreamUnit → Type 0
Alone u = (before after : List ℕ) → bytes u ≡ before ++ 0 ∷ 0 ∷ 1 ∷ after → before ≡ []

-- ── a reading: units, with their division into groups, pictures and ending ──

pub record Picture : Type 0 where
  pub head : StreamUnit
  pub extras : List StreamUnit
  pub slices : List StreamUnit

pub record Group : Type 0 where
  pub head : StreamUnit
  pub extras : List StreamUnit
  pub pictures : List Picture

pub record Reading : Type 0 where
  pub groups : List Group
  pub ending : List StreamUnit

abbrev pub picture_units : Picture → List StreamUnit
picture_units p = p.head ∷ p.extras ++ p.slices

abbrev pub group_units : Group → List StreamUnit
group_units g = g.head ∷ g.extras ++ concat_map picture_units g.pictures

abbrev pub units : Reading → List StreamUnit
units r = concat_map group_units r.groups ++ r.ending

-- ── bodies ──

-- a sequence header with this record
abbrev pub IsHeader : List ℕ → SequenceHeader → Type 0
IsHeader body header = (vs : List ℕ) × Obeys Header body vs × (header_record vs ≡ some header)

abbrev pub IsCopyright : List ℕ → Type 0
IsCopyright body = (vs : List ℕ) × Obeys Copyright body vs

-- a display extension, without colour or with it, as colour given says
abbrev pub IsDisplay : List ℕ → Type 0
IsDisplay body = (vs : List ℕ) × ((ColourGiven body 0 × Obeys Display body vs) ⊎ (ColourGiven body 1 × Obeys Coloured body vs))

-- An extension body has at least one byte; number 4 anywhere is copyright.
pub record Extension (body : List ℕ) : Type 0 where
  pub some_byte : body ≢ []
  pub copyright : HasNumber body 4 → IsCopyright body

-- some byte is not 0
abbrev pub Nonzero : List ℕ → Type 0
Nonzero body = ¬ All (λ x. x ≡ 0) body

-- ── pictures ──

-- user data or an extension, after a picture header
abbrev pub PictureExtra : StreamUnit → Type 0
PictureExtra u = IsKind kind.UserData u ⊎ (IsKind kind.Extension u × Extension u.body)

-- each slice's code byte is greater than the one before
abbrev pub Rising : List StreamUnit → Type 0
Rising [] = Unit {0}
Rising (s ∷ []) = Unit {0}
Rising (s ∷ t ∷ ss) = (s.code < t.code) × Rising (t ∷ ss)

abbrev pub IsSlice : StreamUnit → Type 0
IsSlice s = IsKind kind.Slice s × Nonzero s.body

-- B3 or B6
abbrev pub IsPictureHead : StreamUnit → Type 0
IsPictureHead u = IsKind kind.IPicture u ⊎ IsKind kind.PBPicture u

-- B3 or B6, then any number of B2 and B5, then one or more slices
pub record IsPicture (rule : SliceRule) (p : Picture) : Type 0 where
  pub kind : IsPictureHead p.head
  pub body : Nonzero p.head.body
  pub extras : All PictureExtra p.extras
  pub some_slice : p.slices ≢ []
  pub slices : All IsSlice p.slices
  pub order : rule.tested ≡ true → Rising p.slices × All (λ s. s.code < rule.rows) p.slices

-- ── groups ──

-- the same in a group's head, where number 2 is a display extension
abbrev pub HeadExtra : StreamUnit → Type 0
HeadExtra u = IsKind kind.UserData u ⊎ (IsKind kind.Extension u × Extension u.body × (HasNumber u.body 2 → IsDisplay u.body))

abbrev pub DisplayUnit : StreamUnit → Type 0
DisplayUnit u = IsKind kind.Extension u × HasNumber u.body 2

-- The first picture is B3.
abbrev pub FirstIsI : List Picture → Type 0
FirstIsI [] = ⊥
FirstIsI (p ∷ ps) = IsKind kind.IPicture p.head

-- a group's slice rule: its macroblock rows, and whether slices are tested
abbrev pub slice_rule : SequenceHeader → SliceRule
slice_rule header = record { tested = slices_tested header; rows = macroblock_rows header }

-- B0, then any number of B2 and B5, at most one of them a display extension, then one or more pictures
pub record IsGroup (g : Group) : Type 0 where
  pub header : SequenceHeader
  pub kind : IsKind kind.SequenceHeader g.head
  pub body : IsHeader g.head.body header
  pub extras : All HeadExtra g.extras
  pub one_display : AtMostOne DisplayUnit g.extras
  pub first : FirstIsI g.pictures
  pub pictures : All (IsPicture (slice_rule header)) g.pictures

-- ── streams ──

abbrev pub Empty : Kind → StreamUnit → Type 0
Empty k u = IsKind k u × (u.body ≡ [])

-- B1, or B7, or B1 then B7. Their bodies are empty.
abbrev pub IsEnding : List StreamUnit → Type 0
IsEnding [] = ⊥
IsEnding (e ∷ []) = Empty kind.SequenceEnd e ⊎ Empty kind.EditCode e
IsEnding (e ∷ f ∷ []) = Empty kind.SequenceEnd e × Empty kind.EditCode f
IsEnding (e ∷ f ∷ g ∷ more) = ⊥

-- One or more groups, then an ending. The units' bytes in order are the stream, with none left over.
pub record Reads (stream : List ℕ) (r : Reading) : Type 0 where
  pub stream_is : concat_map bytes (units r) ≡ stream
  pub alone : All Alone (units r)
  pub some_group : r.groups ≢ []
  pub groups : All IsGroup r.groups
  pub ending : IsEnding r.ending
