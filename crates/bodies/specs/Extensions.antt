-- Document 01, "Layouts": which extension a body is, by its number, and which layout a display extension has.
use Rattle.std.specs.Prelude.{ℕ, ◌<◌, ◌≡◌, List, [], ◌∷◌, Bool, true, false, ◌&&◌, not, eqb, Some}
use Rattle.bits.specs.Bits.{bits_in, bits_of, bit_at}
use Rattle.bodies.specs.declared.Scope.{Scope}
use Rattle.bodies.specs.declared.Scope.TheVariants.{Head, Picture}

-- a list begins with these
abbrev pub starts_with : List ℕ → List ℕ → Bool
starts_with [] l = true
starts_with (x ∷ xs) [] = false
starts_with (x ∷ xs) (y ∷ l) = eqb x y && starts_with xs l

-- the body's first four bits are those of n
unfoldable pub numbered : ℕ → List ℕ → Bool
numbered n body = starts_with (bits_in 4 n) (bits_of body)

-- An extension's number is its body's first four bits; it is below 16.
pub record HasNumber (body : List ℕ) (n : ℕ) : Type 0 where
  pub small : n < 16
  pub bits : numbered n body ≡ true

-- "colour given": bit 8 of a display extension
abbrev pub ColourGiven : List ℕ → ℕ → Type 0
ColourGiven body given = bit_at (bits_of body) 8 ≡ Some given

-- Number 4 anywhere is copyright, number 2 in a group's head is the display extension. Any other extension is opaque.
unfoldable pub is_opaque : Scope → List ℕ → Bool
is_opaque Head body = not (numbered 4 body) && not (numbered 2 body)
is_opaque Picture body = not (numbered 4 body)
