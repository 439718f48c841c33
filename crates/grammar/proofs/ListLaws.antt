-- The law of `concat_map` over lists one after another.
use mathlib.Core.Path.{◌≡◌, refl, sym, ◌∙◌, ap}
use mathlib.Core.List.{List, [], ◌∷◌, ◌++◌, append_assoc}
use Rattle.grammar.specs.Lists.{concat_map}

pub concat_append : {A B : Type 0} (f : A → List B) (l m : List A) → concat_map f (l ++ m) ≡ concat_map f l ++ concat_map f m
concat_append f [] m = refl
concat_append f (x ∷ l) m = ap (λ k. f x ++ k) (concat_append f l m) ∙ sym (append_assoc (f x) (concat_map f l) (concat_map f m))
