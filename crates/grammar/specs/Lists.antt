-- Lists, for the grammar's rules.
use Rattle.std.specs.Prelude.{List, [], ◌∷◌, ◌++◌}
use Rattle.bits.specs.Lists.{All}

-- P holds of one element at most
abbrev pub AtMostOne : {A : Type 0} → (A → Type 0) → List A → Type 0
AtMostOne P [] = Unit {0}
AtMostOne P (x ∷ xs) = (P x → All (λ y. ¬ P y) xs) × AtMostOne P xs

-- what f gives of each element, one after another
abbrev pub concat_map : {A B : Type 0} → (A → List B) → List A → List B
concat_map f [] = []
concat_map f (x ∷ xs) = f x ++ concat_map f xs
