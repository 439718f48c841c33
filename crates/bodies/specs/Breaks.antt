-- Document 01, "Refusal numbers": what an extension's body is refused for, by its number and where it stands. The fields are those of
-- its layout.
use Rattle.std.specs.Prelude.{ℕ, ◌<◌, ◌≡◌, ◌⊎◌, List, [], length}
use Rattle.layout.specs.Layouts.{least_bytes}
use Rattle.layout.specs.Breaks.{Breaks}
use Rattle.layout.specs.declared.Layout.TheVariants.{Display, Coloured, Copyright}
use Rattle.layout.specs.declared.Fault.{Fault}
use Rattle.layout.specs.declared.Fault.TheVariants as fault
use Rattle.bodies.specs.Extensions.{HasNumber, ColourGiven}
use Rattle.bodies.specs.declared.Scope.{Scope}
use Rattle.bodies.specs.declared.Scope.TheVariants.{Head}

-- "40 or 64 bits, so at least 6 or 9 bytes"
abbrev pub ShortDisplay : List ℕ → Type 0
ShortDisplay body = (length body < least_bytes Display) ⊎ (ColourGiven body 1 × (length body < least_bytes Coloured))

-- a display extension's body: SHORT, then by its layout
pub data BreaksDisplay (body : List ℕ) (why : Fault) : Type 0 where
  short_display : ShortDisplay body → why ≡ fault.Short → BreaksDisplay body why
  coloured : ¬ ShortDisplay body → ColourGiven body 1 → Breaks Coloured body why → BreaksDisplay body why
  plain : ¬ ShortDisplay body → ColourGiven body 0 → Breaks Display body why → BreaksDisplay body why

-- "An extension body has at least one byte", otherwise SHORT. "Number 4 anywhere is copyright"; "number 2 in a group's head is the
-- display extension"; "any other extension is opaque", and breaks nothing.
pub data BreaksExtension (scope : Scope) (body : List ℕ) (why : Fault) : Type 0 where
  empty : body ≡ [] → why ≡ fault.Short → BreaksExtension scope body why
  copyright : HasNumber body 4 → Breaks Copyright body why → BreaksExtension scope body why
  display : HasNumber body 2 → scope ≡ Head → BreaksDisplay body why → BreaksExtension scope body why
