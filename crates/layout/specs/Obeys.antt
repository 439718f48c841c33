-- Document 01, "Grammar of a stream": a body obeys its layout when it has the bytes asked for, each marker bit is 1,
-- no value is ruled out and its end is as required. Nothing here reads.
use Rattle.std.specs.Prelude.{ℕ, ◌^◌, ◌≤◌, ◌<◌, ◌≡◌, List, [], ◌∷◌, ◌++◌, length, replicate}
use Rattle.std.proofs.Math.Option.{some}
use Rattle.bits.specs.Bits.{bits_in, bits_of}
use Rattle.layout.specs.Layouts.{width_of, rule_of, Keeps, fields, least_bytes}
use Rattle.layout.specs.Values.{Ownership, ownership}
use Rattle.layout.specs.declared.Field.{Field}
use Rattle.layout.specs.declared.Layout.{Layout}
use Rattle.layout.specs.declared.Layout.TheVariants.{Header, Display, Coloured, Copyright}

-- P holds of each field and its value, and there are as many values as fields
abbrev pub Each : (Field → ℕ → Type 0) → List Field → List ℕ → Type 0
Each P [] [] = Unit {0}
Each P [] (v ∷ vs) = ⊥
Each P (f ∷ fs) [] = ⊥
Each P (f ∷ fs) (v ∷ vs) = P f v × Each P fs vs

-- each value fits its field's width
unfoldable pub Fits : List Field → List ℕ → Type 0
Fits = Each (λ f v. v < 2 ^ width_of f)

-- each value is one that its field may have; of a marker that is 1 alone
unfoldable pub AllAllowed : List Field → List ℕ → Type 0
AllAllowed = Each (λ f v. Keeps (rule_of f) v)

-- copyright: flag 0 has owner 0, and owner 0 has number 0
pub record Owned (c : Ownership) : Type 0 where
  pub unflagged : c.flag ≡ 0 → c.owner ≡ 0
  pub unowned : c.owner ≡ 0 → c.number ≡ 0

-- the rules across fields
unfoldable pub Crossed : Layout → List ℕ → Type 0
Crossed Header vs = Unit {0}
Crossed Display vs = Unit {0}
Crossed Coloured vs = Unit {0}
Crossed Copyright vs = (c : Ownership) × (ownership vs ≡ some c) × Owned c

-- the bits of values, each in its field's width, one after another
unfoldable pub written : List Field → List ℕ → List ℕ
written [] vs = []
written (f ∷ fs) [] = []
written (f ∷ fs) (v ∷ vs) = bits_in (width_of f) v ++ written fs vs

-- The body obeys its layout, and its fields have the values vs. After them: one 1 bit, zeros to the byte's end, then only zero bytes.
pub record Obeys (layout : Layout) (body vs : List ℕ) : Type 0 where
  pub long : least_bytes layout ≤ length body
  pub fits : Fits (fields layout) vs
  pub allowed : AllAllowed (fields layout) vs
  pub crossed : Crossed layout vs
  pub zeros : ℕ
  pub bits : bits_of body ≡ written (fields layout) vs ++ (1 ∷ replicate zeros 0)
