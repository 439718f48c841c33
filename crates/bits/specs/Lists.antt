-- Statements about every element of a list, for every crate above.
use Rattle.std.specs.Prelude.{List, [], ◌∷◌}

-- P holds of each element
abbrev pub All : {A : Type 0} → (A → Type 0) → List A → Type 0
All P [] = Unit {0}
All P (x ∷ l) = P x × All P l
