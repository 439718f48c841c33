-- Document 01, "Layouts": values in the order of their fields.
use Rattle.std.specs.Prelude.{ℕ, ◌+◌, ◌*◌, ◌^◌, List, [], ◌∷◌}
use Rattle.std.proofs.Math.Option.{Option, none, some}

-- ── what values make ──

-- the next value of a list; nothing is made where one is not there, or one is left over
pub data Next : Type 0 where
  next : Next

abbrev pub ◌>>=◌ : {A : Type 0} → Next → (ℕ → List ℕ → Option A) → List ℕ → Option A
◌>>=◌ next make [] = none
◌>>=◌ next make (v ∷ vs) = make v vs

-- what is made, after the last value
abbrev pub made : {A : Type 0} → A → List ℕ → Option A
made a [] = some a
made a (v ∷ vs) = none

-- ── copyright extension ──

-- Copyright number = one × 2^44 + two × 2^22 + three.
abbrev pub copyright_number : ℕ → ℕ → ℕ → ℕ
copyright_number one two three = one * 2 ^ 44 + two * 2 ^ 22 + three

-- what the rules across a copyright extension's fields speak of
pub record Ownership : Type 0 where
  pub flag : ℕ
  pub owner : ℕ
  pub number : ℕ

-- the same, of a copyright extension's values
unfoldable pub ownership : List ℕ → Option Ownership
ownership = do
  number ← next
  flag ← next
  owner ← next
  original ← next
  reserved ← next
  marker₁ ← next
  one ← next
  marker₂ ← next
  two ← next
  marker₃ ← next
  three ← next
  made (record { flag = flag; owner = owner; number = copyright_number one two three })
