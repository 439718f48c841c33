-- What the private functions promise one another; no part of document 01.
use Rattle.std.specs.Prelude.{ℕ, ◌+◌, List, [], ◌∷◌, Ok}
use Rattle.answers.specs.Results.{◌>>=◌}
use Rattle.bits.specs.Bits.{read_at}
use Rattle.layout.specs.Layouts.{width_of, rule_of}
use Rattle.layout.specs.Reader.{Reading, ◌>>◌, read_value, ruled}
use Rattle.layout.specs.declared.Field.{Field}

-- a field's value where its rule is kept
unfoldable pub taken : Field → ℕ → List ℕ → Reading ℕ
taken f at bits = do
  v ← read_value (read_at bits at (width_of f))
  ruled (rule_of f) v at
  Ok v

-- fields read and judged one after another, of which the first begins at bit `at`
unfoldable pub taken_from : List Field → ℕ → List ℕ → Reading (List ℕ)
taken_from [] at bits = Ok []
taken_from (f ∷ fs) at bits = do
  v ← taken f at bits
  vs ← taken_from fs (at + width_of f) bits
  Ok (v ∷ vs)
