-- Document 01, "Rows": the rows of a reading.
use Rattle.std.specs.Prelude.{ℕ, ◌+◌, ◌≡◌, ◌≢◌, ◌⊎◌, List, [], ◌∷◌, ◌++◌, map, Bool, true, false, cond, eqb, length, replicate}
use Rattle.answers.specs.Answers.{Outcome, done, refused}
use Rattle.startcode.specs.Kinds.{kind_of}
use Rattle.startcode.specs.declared.Kind.{Kind}
use Rattle.startcode.specs.declared.Kind.TheVariants as kind
use Rattle.bodies.specs.Extensions.{HasNumber, is_opaque}
use Rattle.bodies.specs.declared.Scope.{Scope}
use Rattle.bodies.specs.declared.Scope.TheVariants as scope
use Rattle.grammar.specs.Lists.{concat_map}
use Rattle.grammar.specs.Grammar.{StreamUnit, bytes, IsKind, Picture, Group, Reading, picture_units}

pub record Row : Type 0 where
  pub code : ℕ
  pub offset : ℕ
  pub length : ℕ

-- ── the units of a reading, each with its scope: between a sequence header and the first picture, or elsewhere ──

pub record Placed : Type 0 where
  pub scope : Scope
  pub unit : StreamUnit

abbrev pub placed : Scope → StreamUnit → Placed
placed p u = record { scope = p; unit = u }

abbrev pub placed_picture : Picture → List Placed
placed_picture p = map (placed scope.Picture) (picture_units p)

abbrev pub placed_group : Group → List Placed
placed_group g = placed scope.Picture g.head ∷ map (placed scope.Head) g.extras ++ concat_map placed_picture g.pictures

abbrev pub placed_units : Reading → List Placed
placed_units r = concat_map placed_group r.groups ++ map (placed scope.Picture) r.ending

-- ── lengths ──

abbrev pub kept : ℕ → List ℕ → List ℕ
kept x [] = cond (eqb x 0) [] (x ∷ [])
kept x (y ∷ ys) = x ∷ y ∷ ys

-- the body without its trailing zero bytes
abbrev pub trimmed : List ℕ → List ℕ
trimmed [] = []
trimmed (x ∷ xs) = kept x (trimmed xs)

-- user data and opaque extensions
abbrev pub whole_body : Outcome Kind → Scope → List ℕ → Bool
whole_body (done kind.Slice) p body = false
whole_body (done kind.SequenceHeader) p body = false
whole_body (done kind.SequenceEnd) p body = false
whole_body (done kind.UserData) p body = true
whole_body (done kind.IPicture) p body = false
whole_body (done kind.Extension) p body = is_opaque p body
whole_body (done kind.PBPicture) p body = false
whole_body (done kind.EditCode) p body = false
whole_body (refused number carried) p body = false

abbrev pub is_whole : Placed → Bool
is_whole p = whole_body (kind_of p.unit.code) p.scope p.unit.body

-- The length is the body without its trailing zero bytes, but the whole body for user data and opaque extensions.
unfoldable pub row_length : Placed → ℕ
row_length p = length (cond (is_whole p) p.unit.body (trimmed p.unit.body))

-- ── rows ──

-- the code, the number of bytes in the units before it, and the length
abbrev pub rows_from : ℕ → List Placed → List Row
rows_from at [] = []
rows_from at (p ∷ ps) = record { code = p.unit.code; offset = at; length = row_length p } ∷ rows_from (at + length (bytes p.unit)) ps

abbrev pub rows : Reading → List Row
rows r = rows_from 0 (placed_units r)

-- three words a unit, in order: code, offset of the start code, length
abbrev pub words : List Row → List ℕ
words [] = []
words (r ∷ rs) = r.code ∷ r.offset ∷ r.length ∷ words rs

-- ── what a row's length is, with nothing computed ──

-- the number is not 4, and not 2 in a group's head
abbrev pub Opaque : Scope → List ℕ → Type 0
Opaque p body = (¬ HasNumber body 4) × (p ≡ scope.Head → ¬ HasNumber body 2)

-- user data and opaque extensions
abbrev pub Whole : Placed → Type 0
Whole p = IsKind kind.UserData p.unit ⊎ (IsKind kind.Extension p.unit × Opaque p.scope p.unit.body)

-- the body is n bytes and zeros after them, and the last of the n is not 0
pub record Trimmed (body : List ℕ) (n : ℕ) : Type 0 where
  pub first : List ℕ
  pub zeros : ℕ
  pub is : body ≡ first ++ replicate zeros 0
  pub last : (before : List ℕ) (x : ℕ) → first ≡ before ++ x ∷ [] → x ≢ 0
  pub count : length first ≡ n

pub record LengthIs (p : Placed) (n : ℕ) : Type 0 where
  pub whole : Whole p → n ≡ length p.unit.body
  pub trimmed : ¬ Whole p → Trimmed p.unit.body n
