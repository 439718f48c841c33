-- The bit of a refusal is the first bit of its field, and a bit of the body's fields.
use Prim.Native.Nat.{ℕ, ◌+◌, ◌≤◌, ◌<◌}
use mathlib.Core.Path.{◌≡◌, refl, sym, subst}
use mathlib.Core.List.{List, [], ◌∷◌, ◌++◌}
use native.Mathlib.Omega.{arith}
use Rattle.bits.specs.Lists.{All}
use Rattle.layout.specs.Layouts.{name_of, width_of, rule_of, Wrong, fields, bit_count, Begins, placed_at}
use Rattle.layout.specs.Values.{Ownership}
use Rattle.layout.specs.Breaks.{FirstWrong, Disowned, unflagged, unowned, BreaksAcross, Breaks, short, wrong, across, ended}
use Rattle.layout.specs.declared.Name.{Name}
use Rattle.layout.specs.declared.Name.TheVariants as name
use Rattle.layout.specs.declared.JudgedField.{JudgedField}
use Rattle.layout.specs.declared.JudgedField.TheVariants as value
use Rattle.layout.specs.declared.Rule.{Rule}
use Rattle.layout.specs.declared.Rule.TheVariants as rule
use Rattle.layout.specs.declared.Field.{Field}
use Rattle.layout.specs.declared.Layout.{Layout}
use Rattle.layout.specs.declared.Layout.TheVariants.{Header, Display, Coloured, Copyright}
use Rattle.layout.specs.declared.Fault.{Fault}
use Rattle.layout.specs.declared.Fault.TheVariants as fault

-- ── the names of judged fields ──

-- a rule is that of the field with this name
abbrev Named : Rule → Name → Type 0
Named rule.Any n = Unit {0}
Named rule.Set n = n ≡ name.Marker
Named (rule.Judged field values) n = n ≡ placed_at field

-- every rule of the four layouts is that of its own field
named : (layout : Layout) → All (λ (f : Field). Named (rule_of f) (name_of f)) (fields layout)
unfolding fields placed_at
named Header = (tt, (tt, (tt, (refl, (refl, (refl, (refl, (refl, (refl, (tt, (refl, (tt, (tt, (refl, (tt, (tt, tt))))))))))))))))
named Display = (tt, (tt, (tt, (tt, (tt, (refl, (tt, (refl, tt))))))))
named Coloured = (tt, (tt, (tt, (tt, (tt, (refl, (refl, (tt, (refl, (tt, (refl, tt)))))))))))
named Copyright = (tt, (tt, (tt, (tt, (tt, (refl, (tt, (refl, (tt, (refl, (tt, tt)))))))))))

-- and every field has a bit
some_bit : (layout : Layout) → All (λ (f : Field). 1 ≤ width_of f) (fields layout)
unfolding fields
some_bit Header = omega arith
some_bit Display = omega arith
some_bit Coloured = omega arith
some_bit Copyright = omega arith

all_at : (P : Field → Type 0) (before : List Field) (f : Field) (after : List Field) → All P (before ++ (f ∷ after)) → P f
all_at P [] f after h = h.0
all_at P (b ∷ before) f after h = all_at P before f after h.1

-- what holds of all fields of a layout holds of this one
module _ (layout : Layout) (before : List Field) (f : Field) (after : List Field) (e : fields layout ≡ before ++ (f ∷ after)) where
  of_field : (P : Field → Type 0) → All P (fields layout) → P f
  of_field P h = all_at P before f after (subst (All P) e h)

  bits_before : bit_count before + width_of f ≤ bit_count (fields layout)
  bits_before = subst (λ (fs : List Field). bit_count before + width_of f ≤ bit_count fs) (sym e) (counted before)
    where
      counted : (before : List Field) → bit_count before + width_of f ≤ bit_count (before ++ (f ∷ after))
      counted [] = omega arith
      counted (b ∷ before) = let h = counted before in omega arith

-- ── the place of a refusal ──

-- a fault has the name and the bit of the field that is refused
abbrev Placed : Fault → Name → ℕ → Type 0
Placed fault.Short n at = ⊥
Placed (fault.Marker place) n at = (n ≡ name.Marker) × (place ≡ at)
Placed (fault.Value field place) n at = (n ≡ placed_at field) × (place ≡ at)
Placed fault.Stuffing n at = ⊥

-- what is refused for a rule is refused at the bit at which the rule is broken
wrong_placed : (r : Rule) (n : Name) (v at : ℕ) (why : Fault) → Named r n → Wrong r v at why → Placed why n at
wrong_placed rule.Any n v at why k h = absurd h
wrong_placed rule.Set n v at why k (x, e) = subst (λ (f : Fault). Placed f n at) (sym e) (k, refl)
wrong_placed (rule.Judged field values) n v at why k (x, e) = subst (λ (f : Fault). Placed f n at) (sym e) (k, refl)

-- the first field whose rule is broken
module _ (layout : Layout) (vs : List ℕ) (why : Fault) (w : FirstWrong (fields layout) 0 vs why) where
  first_placed : Placed why (name_of w.field) (0 + bit_count w.before)
  first_placed =
      let known = of_field layout w.before w.field w.after w.all_fields (λ (f : Field). Named (rule_of f) (name_of f)) (named layout) in
      wrong_placed (rule_of w.field) (name_of w.field) w.value (0 + bit_count w.before) why known w.broken

  first_begins : {n : Name} {place : ℕ} → (name_of w.field ≡ n) × (place ≡ 0 + bit_count w.before) → Begins layout n place
  first_begins (e, s) = record { before = w.before; it = w.field; after = w.after; all = w.all_fields; named = e; sum = omega arith }

value_same : (a b : JudgedField) (p q : ℕ) → fault.Value a p ≡ fault.Value b q → (a ≡ b) × (p ≡ q)
value_same a b p q e = (cc, cc)

-- the rules across a copyright extension's fields
disowned_begins : (c : Ownership) (field : JudgedField) (place : ℕ) → Disowned c (fault.Value field place) → Begins Copyright (placed_at field) place
unfolding placed_at
disowned_begins c field place (unflagged f o at b e) = let (i, j) = value_same field value.CopyrightOwner place at e in rw (i, j) b
disowned_begins c field place (unowned o n at b e) = let (i, j) = value_same field value.CopyrightNumber place at e in rw (i, j) b

across_begins : (layout : Layout) (vs : List ℕ) (field : JudgedField) (place : ℕ) → BreaksAcross layout vs (fault.Value field place) → Begins layout (placed_at field) place
unfolding BreaksAcross
across_begins Header vs field place h = absurd h
across_begins Display vs field place h = absurd h
across_begins Coloured vs field place h = absurd h
across_begins Copyright vs field place h = disowned_begins h.0 field place h.2

across_no_marker : (layout : Layout) (vs : List ℕ) (place : ℕ) → BreaksAcross layout vs (fault.Marker place) → ⊥
unfolding BreaksAcross
across_no_marker Header vs place h = h
across_no_marker Display vs place h = h
across_no_marker Coloured vs place h = h
across_no_marker Copyright vs place (c, o, unflagged f g at b e) = let z : ◌≡◌ {A = ℕ} 0 1 = cc in omega arith
across_no_marker Copyright vs place (c, o, unowned f g at b e) = let z : ◌≡◌ {A = ℕ} 0 1 = cc in omega arith

-- ── the whole ──

pub value_begins : (layout : Layout) (body : List ℕ) (field : JudgedField) (place : ℕ) → Breaks layout body (fault.Value field place) → Begins layout (placed_at field) place
value_begins layout body field place (short h e) = let z : ◌≡◌ {A = ℕ} 0 1 = cc in absurd (omega arith)
value_begins layout body field place (wrong vs end h w) = first_begins layout vs _ w (first_placed layout vs _ w)
value_begins layout body field place (across vs end h a x) = across_begins layout vs field place x
value_begins layout body field place (ended vs end h a x n e) = let z : ◌≡◌ {A = ℕ} 0 1 = cc in absurd (omega arith)

pub marker_begins : (layout : Layout) (body : List ℕ) (place : ℕ) → Breaks layout body (fault.Marker place) → Begins layout name.Marker place
marker_begins layout body place (short h e) = let z : ◌≡◌ {A = ℕ} 0 1 = cc in absurd (omega arith)
marker_begins layout body place (wrong vs end h w) = first_begins layout vs _ w (first_placed layout vs _ w)
marker_begins layout body place (across vs end h a x) = absurd (across_no_marker layout vs place x)
marker_begins layout body place (ended vs end h a x n e) = let z : ◌≡◌ {A = ℕ} 0 1 = cc in absurd (omega arith)

-- a field's first bit is one of the fields' bits
pub begins_inside : (layout : Layout) (n : Name) (place : ℕ) → Begins layout n place → place < bit_count (fields layout)
begins_inside layout n place b =
    let some = of_field layout b.before b.it b.after b.all (λ (f : Field). 1 ≤ width_of f) (some_bit layout) in
    let h = bits_before layout b.before b.it b.after b.all in
    let s = b.sum in
    omega arith
