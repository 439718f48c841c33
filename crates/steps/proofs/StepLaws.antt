-- Number 2 in a group's head is a display extension.
use mathlib.Core.Path.{◌≡◌}
use mathlib.Core.List.{List}
use mathlib.Core.Bool.{true}
use Prim.Native.Nat.{ℕ}
use Rattle.bodies.specs.Extensions.{numbered}
use Rattle.bodies.specs.Reader.{display_of, extension_result, by_number}
use Rattle.bodies.specs.declared.Scope.TheVariants.{Head}
use Rattle.bodies.proofs.NumberLaws.{number_iff}
use Rattle.grammar.proofs.Division.{number_two}

pub head_display : (body : List ℕ) → numbered 2 body ≡ true → extension_result Head body ≡ display_of body
unfolding extension_result by_number
head_display body t = rw ((number_iff body 2).1 ((number_two body).0 t))
