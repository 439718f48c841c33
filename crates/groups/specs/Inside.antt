-- What the private functions promise one another; no part of document 01.
use Rattle.std.specs.Prelude.{ℕ, ◌≤◌, ◌<◌, ◌≡◌, List, [], ◌∷◌, true, length, drop, Option, Some, None}
use Rattle.startcode.specs.Prefix.{begins}
use Rattle.grammar.specs.Grammar.{StreamUnit}
use Rattle.grammar.specs.Reader.{cut}
use Rattle.bodies.specs.declared.DisplayExtension.{DisplayExtension}
use Rattle.groups.specs.declared.UnitHere.{UnitHere}
use Rattle.groups.specs.declared.InHead.{InHead}
use Rattle.groups.specs.declared.InHead.TheVariants as in_head

-- the units before the first empty chunk; a stream that is filed has no empty one
unfoldable pub units_in : List (List ℕ) → List StreamUnit
units_in [] = []
units_in ([] ∷ chunks) = []
units_in ((code ∷ body) ∷ chunks) = record { code = code; body = body } ∷ units_in chunks

-- the units from an offset on
unfoldable pub units_from : List ℕ → ℕ → List StreamUnit
units_from stream at = units_in (cut (drop at stream)).chunks

-- a unit begins at the offset, or the stream ends there
pub record Here (stream : List ℕ) (at : ℕ) : Type 0 where
  pub inside : at ≤ length stream
  pub prefix : at < length stream → begins (drop at stream) ≡ true

-- a unit as the code has it
abbrev pub unit_of : UnitHere → StreamUnit
unit_of u = record { code = u.code; body = u.body.now }

-- the display extension, by what a unit of the head says and by those after it
abbrev pub display_by : InHead → Option DisplayExtension → Option DisplayExtension
display_by (in_head.Display d) rest = Some d
display_by in_head.Other rest = rest
display_by in_head.Past rest = None

-- what a unit of the head says, whatever those after it say
abbrev pub Tells : InHead → (Option DisplayExtension → Option DisplayExtension) → Type 0
Tells y f = (rest : Option DisplayExtension) → display_by y rest ≡ f rest
