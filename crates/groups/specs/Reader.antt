-- Group g of a stream, as a computation: a view of the units that the walk finds.
use Rattle.std.specs.Prelude.{ℕ, zero, suc, List, [], ◌∷◌, map, Bool, cond, Option, Some, None}
use Rattle.answers.specs.Answers.{Outcome, done, refused, and_then, NO_ROW}
use Rattle.startcode.specs.Kinds.{kind_of}
use Rattle.startcode.specs.declared.Kind.{Kind}
use Rattle.startcode.specs.declared.Kind.TheVariants as kind
use Rattle.bodies.specs.declared.ExtensionBody.{ExtensionBody}
use Rattle.bodies.specs.declared.ExtensionBody.TheVariants as extensionBody
use Rattle.bodies.specs.Reader.{header_of, extension_of}
use Rattle.bodies.specs.declared.Scope.TheVariants as scope
use Rattle.bodies.specs.declared.SequenceHeader.{SequenceHeader}
use Rattle.grammar.specs.Grammar.{StreamUnit}
use Rattle.grammar.specs.Reader.{is_kind, walk, said}
use Rattle.bodies.specs.declared.DisplayExtension.{DisplayExtension}
use Rattle.groups.specs.Groups.{GroupRecord}

-- Number 2 in a group's head is the display extension; after any other unit of the head the next ones are looked at.
abbrev pub shown : Outcome ExtensionBody → Option DisplayExtension → Option DisplayExtension
shown (done (extensionBody.Display d)) rest = Some d
shown (done (extensionBody.Copyright c)) rest = rest
shown (done (extensionBody.Opaque number)) rest = rest
shown (refused number carried) rest = rest

-- A group's head is what stands before its first picture: B2 and B5.
abbrev pub in_head : Outcome Kind → List ℕ → Option DisplayExtension → Option DisplayExtension
in_head (done kind.Slice) body rest = None
in_head (done kind.SequenceHeader) body rest = None
in_head (done kind.SequenceEnd) body rest = None
in_head (done kind.UserData) body rest = rest
in_head (done kind.IPicture) body rest = None
in_head (done kind.Extension) body rest = shown (extension_of scope.Head body) rest
in_head (done kind.PBPicture) body rest = None
in_head (done kind.EditCode) body rest = None
in_head (refused number carried) body rest = None

-- the display extension of the head that these units go on
unfoldable pub display_in : List StreamUnit → Option DisplayExtension
display_in [] = None
display_in (u ∷ us) = in_head (kind_of u.code) u.body (display_in us)

-- the record of a group, by its sequence header's body and the display extension of its head; a stream that is good has no header that
-- is refused
abbrev pub group_of : Outcome SequenceHeader → Option DisplayExtension → Outcome GroupRecord
group_of (done header) d = done (record { header = header; display = d })
group_of (refused number carried) d = refused NO_ROW []

-- B0 begins a group
abbrev pub begins_group : StreamUnit → Bool
begins_group u = is_kind kind.SequenceHeader (kind_of u.code)

-- group g of these units, counted from 0, or NO ROW; of the groups before it nothing is read
unfoldable pub group_in : ℕ → List StreamUnit → Outcome GroupRecord
group_in g [] = refused NO_ROW []
group_in zero (u ∷ us) = cond (begins_group u) (group_of (header_of u.body) (display_in us)) (group_in zero us)
group_in (suc g) (u ∷ us) = cond (begins_group u) (group_in g us) (group_in (suc g) us)

-- the stream's refusal, rows aside, comes first
unfoldable pub group_at : List ℕ → ℕ → Outcome GroupRecord
group_at stream g = and_then (said (map (λ m. m.unit)) (walk stream)) (group_in g)
