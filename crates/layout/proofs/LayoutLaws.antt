-- What holds of the four layouts, and of fields and their values.
use Prim.Native.Nat.{ℕ, zero, suc, ◌+◌, ◌*◌, ◌^◌, ◌≤◌, ◌<◌}
use mathlib.Core.Path.{◌≡◌, refl, ap, ◌∙◌}
use mathlib.Core.Logic.{◌≢◌}
use mathlib.Core.List.{List, [], ◌∷◌, ◌++◌}
use native.Mathlib.Omega.{arith}
use lib.ListN.{length, get_or, take, drop, drop_of_length-le}
use lib.Seq.{drop-cons}
use Rattle.bits.specs.Lists.{All}
use Rattle.layout.specs.Layouts.{field, name_of, width_of, marker, copyright_fields, fields, bit_count, Begins, least_bytes}
use Rattle.layout.specs.Obeys.{Each, Fits}
use Rattle.layout.specs.declared.Name.{Name}
use Rattle.layout.specs.declared.Name.TheVariants as name
use Rattle.layout.specs.declared.Rule.TheVariants as rule
use Rattle.layout.specs.declared.Field.{Field}
use Rattle.layout.specs.declared.Layout.{Layout}
use Rattle.layout.specs.declared.Layout.TheVariants.{Header, Display, Coloured, Copyright}

-- ── the four layouts ──

pub record Table (layout : Layout) : Type 0 where
  pub few : length (fields layout) ≤ 16
  pub small : bit_count (fields layout) ≤ 112
  pub whole : bit_count (fields layout) + 8 ≡ least_bytes layout * 8
  pub narrow : All (λ (f : Field). width_of f ≤ 32) (fields layout)

pub table : (layout : Layout) → Table layout
unfolding fields least_bytes
table Header = record { few = omega arith; small = omega arith; whole = refl; narrow = omega arith }
table Display = record { few = omega arith; small = omega arith; whole = refl; narrow = omega arith }
table Coloured = record { few = omega arith; small = omega arith; whole = refl; narrow = omega arith }
table Copyright = record { few = omega arith; small = omega arith; whole = refl; narrow = omega arith }

-- ── fields in order ──

pub rest_count : (fs gs : List Field) (f : Field) → fs ≡ f ∷ gs → bit_count fs ≡ width_of f + bit_count gs
rest_count fs gs f e = rw e

-- ── fields and their values ──

pub each_length : (P : Field → ℕ → Type 0) (fs : List Field) (vs : List ℕ) → Each P fs vs → length vs ≡ length fs
each_length P [] [] h = refl
each_length P [] (v ∷ vs) h = absurd h
each_length P (f ∷ fs) [] h = absurd h
each_length P (f ∷ fs) (v ∷ vs) h = ap suc (each_length P fs vs h.1)

pub each_at : (P : Field → ℕ → Type 0) (fs : List Field) (vs : List ℕ) (i : ℕ) → Each P fs vs → i < length fs → P (get_or fs i marker) (get_or vs i 0)
each_at P [] vs i h k = absurd (omega arith)
each_at P (f ∷ fs) [] i h k = absurd h
each_at P (f ∷ fs) (v ∷ vs) zero h k = h.0
each_at P (f ∷ fs) (v ∷ vs) (suc i) h k = each_at P fs vs i h.1 (omega arith)

pub fits_length : (fs : List Field) (vs : List ℕ) → Fits fs vs → length vs ≡ length fs
unfolding Fits
fits_length fs vs h = each_length (λ (f : Field) (v : ℕ). v < 2 ^ width_of f) fs vs h

pub fits_at : (fs : List Field) (vs : List ℕ) (i : ℕ) → Fits fs vs → i < length fs → get_or vs i 0 < 2 ^ width_of (get_or fs i marker)
unfolding Fits
fits_at fs vs i h k = each_at (λ (f : Field) (v : ℕ). v < 2 ^ width_of f) fs vs i h k

-- ── a list by its elements ──

abbrev pub spell : ℕ → ℕ → List ℕ → List ℕ
spell zero i l = []
spell (suc n) i l = get_or l i 0 ∷ spell n (suc i) l

spell_rest : (n i : ℕ) (l : List ℕ) → i + n ≡ length l → drop i l ≡ spell n i l
spell_rest zero i l e = drop_of_length-le l {i = i} (omega arith)
spell_rest (suc n) i l e = rw (drop-cons l i 0 (omega arith), spell_rest n (suc i) l (omega arith))

-- a list of n elements is those elements
pub spelled : (n : ℕ) (l : List ℕ) → length l ≡ n → l ≡ spell n 0 l
spelled n l e = spell_rest n 0 l (omega arith)

-- ── where a field begins ──

clash : {P : Type 0} → ◌≡◌ {A = ℕ} 0 1 → P
clash z = absurd (omega arith)

-- a field whose name no other field of its layout has stands in one place
module _ (name : Name) where
  abbrev Without : List Field → Type 0
  Without fs = All (λ (f : Field). name_of f ≢ name) fs

  absent : (fs before : List Field) (g : Field) (after : List Field) → Without fs → name_of g ≡ name → fs ≡ before ++ (g ∷ after) → ⊥
  absent [] [] g after w n e = clash cc
  absent [] (b ∷ before) g after w n e = clash cc
  absent (f ∷ fs) [] g after w n e = let i : f ≡ g = cc in w.0 (ap name_of i ∙ n)
  absent (f ∷ fs) (b ∷ before) g after w n e = absent fs before g after w.1 n cc

  alone : (xs : List Field) (f : Field) (ys before : List Field) (g : Field) (after : List Field) → Without xs → Without ys → name_of g ≡ name →
      xs ++ (f ∷ ys) ≡ before ++ (g ∷ after) → before ≡ xs
  alone [] f ys [] g after w v n e = refl
  alone [] f ys (b ∷ before) g after w v n e = absurd (absent ys before g after v n cc)
  alone (x ∷ xs) f ys [] g after w v n e = let i : x ≡ g = cc in absurd (w.0 (ap name_of i ∙ n))
  alone (x ∷ xs) f ys (b ∷ before) g after w v n e =
      let i : b ≡ x = cc in
      let r = alone xs f ys before g after w.1 v n cc in
      rw (i, r)

-- the owner and part one of a copyright extension
abbrev before_owner : List Field
before_owner = take 2 copyright_fields

abbrev before_part_one : List Field
before_part_one = take 6 copyright_fields

pub owner_begins : Begins Copyright name.Owner 5
unfolding fields
owner_begins = record { before = before_owner; it = field name.Owner 8 rule.Any; after = drop 3 copyright_fields; all = refl; named = refl; sum = refl }

pub number_begins : Begins Copyright name.PartOne 22
unfolding fields
number_begins = record { before = before_part_one; it = field name.PartOne 20 rule.Any; after = drop 7 copyright_fields; all = refl; named = refl; sum = refl }

pub owner_at : (at : ℕ) → Begins Copyright name.Owner at → at ≡ 5
unfolding fields
owner_at at b =
    b.sum
    ∙ ap bit_count
    (alone name.Owner before_owner (field name.Owner 8 rule.Any) (drop 3 copyright_fields) b.before b.it b.after
    ((λ e. clash cc), ((λ e. clash cc), tt))
    ((λ e. clash cc), ((λ e. clash cc), ((λ e. clash cc), ((λ e. clash cc), ((λ e. clash cc), ((λ e. clash cc), ((λ e. clash cc), ((λ e. clash cc), tt))))))))
    b.named b.all)

pub number_at : (at : ℕ) → Begins Copyright name.PartOne at → at ≡ 22
unfolding fields
number_at at b =
    b.sum
    ∙ ap bit_count
    (alone name.PartOne before_part_one (field name.PartOne 20 rule.Any) (drop 7 copyright_fields) b.before b.it b.after
    ((λ e. clash cc), ((λ e. clash cc), ((λ e. clash cc), ((λ e. clash cc), ((λ e. clash cc), ((λ e. clash cc), tt))))))
    ((λ e. clash cc), ((λ e. clash cc), ((λ e. clash cc), ((λ e. clash cc), tt))))
    b.named b.all)
