-- The front page: the count of numbers handed over says what is given, and the bit of a refusal is there exactly for MARKER and VALUE.
use Prim.Native.Nat.{ℕ, ◌≤◌}
use mathlib.Core.Path.{◌≡◌}
use mathlib.Core.Logic.{◌↔◌}
use mathlib.Core.List.{List}
use lib.ListN.{length}
use Rattle.answers.specs.Answers.{done, map_done}
use Rattle.layout.specs.declared.Layout.TheVariants.{Header}
use Rattle.bodies.specs.declared.ExtensionBody.{ExtensionBody}
use Rattle.bodies.specs.declared.ExtensionBody.TheVariants as extensionBody
use Rattle.bodies.specs.Reader.{header_of, extension_of}
use Rattle.bodies.specs.declared.Scope.{Scope}
use Rattle.bodies.specs.declared.CopyrightExtension.{CopyrightExtension}
use Rattle.bodies.proofs.Main as bodies
use Rattle.bodies.proofs.PlaceLaws.{layout_inside, extension_inside}
use Rattle.ratios.specs.Ratios.{frame_rate, display_ratio}
use Rattle.std.proofs.Common.{None}
use Rattle.groups.specs.Groups.{GroupRecord}
use Rattle.groups.specs.Reader.{group_at}
use Rattle.statuses.specs.Answers.{counted, BitMarked}
use Rattle.statuses.proofs.MarkLaws.{marked_fault}
use Rattle.handover.specs.Answers.{answered}
use Rattle.handover.specs.Numbers.{header_numbers, ratio_numbers, group_numbers, extension_numbers}
use Rattle.handover.proofs.CountLaws as counts
use Rattle.handover.proofs.MarkLaws as marks
use Rattle.handover.proofs.MarkLaws.{marked_answer}
use Rattle.handover.proofs.CountLaws.{Plain, Coloured, Shown, Displays, count_is}

-- Frame rates and display ratios: done with count 0 exactly when none is given, whatever is lent.
pub frame_rate_none : (code : ℕ) (lent : List ℕ) → (answered (done (ratio_numbers (frame_rate code))) lent ≡ counted (done 0)) ↔ (frame_rate code ≡ None)
frame_rate_none code lent = counts.none_counted (frame_rate code) lent

pub display_ratio_none : (aspect : ℕ) (lent : List ℕ) → (answered (done (ratio_numbers (display_ratio aspect))) lent ≡ counted (done 0)) ↔ (display_ratio aspect ≡ None)
display_ratio_none aspect lent = counts.none_counted (display_ratio aspect) lent

-- A group, where there is room: the count is 14 exactly when its display extension is not given, 19 exactly when it is given without
-- colour, and 22 exactly when it is given with colour.
module _ (x : GroupRecord) (lent : List ℕ) (room : length (group_numbers x) ≤ length lent) where
  pub group_bare : ((answered (done (group_numbers x)) lent).count ≡ 14) ↔ (x.display ≡ None)
  group_bare = count_is (group_numbers x) lent room (counts.group_bare x)

  pub group_plain : ((answered (done (group_numbers x)) lent).count ≡ 19) ↔ Shown Plain x.display
  group_plain = count_is (group_numbers x) lent room (counts.group_plain x)

  pub group_coloured : ((answered (done (group_numbers x)) lent).count ≡ 22) ↔ Shown Coloured x.display
  group_coloured = count_is (group_numbers x) lent room (counts.group_coloured x)

-- An extension, where there is room: the count is 1 exactly when it is opaque, 5 exactly when it is copyright, 6 exactly when it is
-- display without colour, and 9 exactly when it is display with colour.
module _ (y : ExtensionBody) (lent : List ℕ) (room : length (extension_numbers y) ≤ length lent) where
  pub extension_opaque : ((answered (done (extension_numbers y)) lent).count ≡ 1) ↔ ((number : ℕ) × (y ≡ extensionBody.Opaque number))
  extension_opaque = count_is (extension_numbers y) lent room (counts.extension_opaque y)

  pub extension_copyright : ((answered (done (extension_numbers y)) lent).count ≡ 5) ↔ ((c : CopyrightExtension) × (y ≡ extensionBody.Copyright c))
  extension_copyright = count_is (extension_numbers y) lent room (counts.extension_copyright y)

  pub extension_plain : ((answered (done (extension_numbers y)) lent).count ≡ 6) ↔ Displays Plain y
  extension_plain = count_is (extension_numbers y) lent room (counts.extension_plain y)

  pub extension_coloured : ((answered (done (extension_numbers y)) lent).count ≡ 9) ↔ Displays Coloured y
  extension_coloured = count_is (extension_numbers y) lent room (counts.extension_coloured y)

-- The bit of a group's, a sequence header's and an extension's answer: one of the fields' bits exactly for MARKER and VALUE, else the mark.
pub group_marked : (stream : List ℕ) (g : ℕ) (lent : List ℕ) → BitMarked (answered (map_done group_numbers (group_at stream g)) lent)
group_marked stream g lent = marked_answer group_numbers (group_at stream g) lent (marks.group_marked stream g)

pub header_marked : (body lent : List ℕ) → BitMarked (answered (map_done header_numbers (header_of body)) lent)
header_marked body lent =
    marked_answer header_numbers (header_of body) lent
    (λ n carried e. let (why, b, m, c) = (bodies.header_refused_iff body n carried).0 e in marked_fault why n carried (layout_inside Header body why b) m c)

pub extension_marked : (scope : Scope) (body lent : List ℕ) → BitMarked (answered (map_done extension_numbers (extension_of scope body)) lent)
extension_marked scope body lent =
    marked_answer extension_numbers (extension_of scope body) lent
    (λ n carried e. let (why, b, m, c) = (bodies.extension_refused_iff scope body n carried).0 e in marked_fault why n carried (extension_inside scope body why b) m c)
