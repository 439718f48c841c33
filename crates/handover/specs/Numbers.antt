-- The numbers of each record in order, as they are handed over. What is not given has no numbers.
use Rattle.std.specs.Prelude.{ℕ, List, [], ◌∷◌, ◌++◌, Option, Some, None, Bool, true, false}
use Rattle.bodies.specs.declared.ExtensionBody.{ExtensionBody}
use Rattle.bodies.specs.declared.ExtensionBody.TheVariants as extensionBody
use Rattle.bodies.specs.declared.SequenceHeader.{SequenceHeader}
use Rattle.bodies.specs.declared.Colour.{Colour}
use Rattle.bodies.specs.declared.DisplayExtension.{DisplayExtension}
use Rattle.bodies.specs.declared.CopyrightExtension.{CopyrightExtension}
use Rattle.bodies.specs.declared.Scope.{Scope}
use Rattle.bodies.specs.declared.Scope.TheVariants as scope
use Rattle.ratios.specs.Ratios.{numerator, denominator}
use Rattle.ratios.specs.declared.Fraction.{Fraction}
use Rattle.macroblocks.specs.Macroblocks.{macroblock_columns, macroblock_rows}
use Rattle.groups.specs.Groups.{GroupRecord}

-- a sequence header, with its macroblock columns and rows
unfoldable pub header_numbers : SequenceHeader → List ℕ
header_numbers h =
    h.profile
    ∷ h.level
    ∷ h.progressive
    ∷ h.horizontal
    ∷ h.vertical
    ∷ h.chroma
    ∷ h.precision
    ∷ h.aspect
    ∷ h.rate
    ∷ h.bitrate
    ∷ h.delay
    ∷ h.buffer
    ∷ macroblock_columns h
    ∷ macroblock_rows h
    ∷ []

abbrev pub colour_numbers : Option Colour → List ℕ
colour_numbers (Some colour) = colour.primaries ∷ colour.transfer ∷ colour.matrix ∷ []
colour_numbers None = []

-- a display extension, with its colour where that is given
unfoldable pub display_numbers : DisplayExtension → List ℕ
display_numbers d = d.format ∷ d.range ∷ d.width ∷ d.height ∷ d.stereo ∷ colour_numbers d.colour

unfoldable pub copyright_numbers : CopyrightExtension → List ℕ
copyright_numbers c = c.flag ∷ c.owner ∷ c.original ∷ c.number ∷ []

abbrev pub ratio_numbers : Option Fraction → List ℕ
ratio_numbers (Some f) = numerator f ∷ denominator f ∷ []
ratio_numbers None = []

-- ── an extension's body ──

-- the caller says group's head or picture
abbrev pub scope_for : Bool → Scope
scope_for true = scope.Head
scope_for false = scope.Picture

-- the extension's number, and what it says where it is not opaque
abbrev pub extension_numbers : ExtensionBody → List ℕ
extension_numbers (extensionBody.Display d) = 2 ∷ display_numbers d
extension_numbers (extensionBody.Copyright c) = 4 ∷ copyright_numbers c
extension_numbers (extensionBody.Opaque number) = number ∷ []

-- ── a group ──

abbrev pub shown_numbers : Option DisplayExtension → List ℕ
shown_numbers (Some d) = display_numbers d
shown_numbers None = []

-- its header, and its display extension where that is given
abbrev pub group_numbers : GroupRecord → List ℕ
group_numbers g = header_numbers g.header ++ shown_numbers g.display
