-- How many numbers stand for what is given and for what is not given.
use Prim.Native.Nat.{ℕ, suc, ◌+◌, ◌≤◌, ◌<◌}
use mathlib.Core.Path.{◌≡◌, refl, sym, ap, ◌∙◌, subst}
use mathlib.Core.Logic.{◌↔◌}
use mathlib.Core.List.{List, [], ◌++◌}
use native.Mathlib.Omega.{arith}
use lib.Dec.{leb}
use lib.ListN.{length}
use Rattle.answers.specs.Answers.{done}
use Rattle.bits.proofs.TestLaws.{by_test}
use Rattle.bodies.specs.declared.ExtensionBody.{ExtensionBody}
use Rattle.bodies.specs.declared.ExtensionBody.TheVariants as extensionBody
use Rattle.bodies.specs.declared.SequenceHeader.{SequenceHeader}
use Rattle.bodies.specs.declared.DisplayExtension.{DisplayExtension}
use Rattle.bodies.specs.declared.CopyrightExtension.{CopyrightExtension}
use Rattle.bodies.specs.declared.Colour.{Colour}
use Rattle.std.proofs.Common.{Option, Some, None}
use Rattle.ratios.specs.declared.Fraction.{Fraction}
use Rattle.groups.specs.Groups.{GroupRecord}
use Rattle.statuses.specs.declared.Answer.{Answer}
use Rattle.statuses.specs.Answers.{counted}
use Rattle.handover.specs.Answers.{answered}
use Rattle.handover.specs.Numbers.{header_numbers, display_numbers, colour_numbers, copyright_numbers, ratio_numbers, shown_numbers, group_numbers, extension_numbers}
use Rattle.handover.proofs.HandedLaws.{handed_all}

-- the count is that of the numbers, where there is room for them
pub count_is : {P : Type 0} (vs lent : List ℕ) {n : ℕ} → length vs ≤ length lent → ((length vs ≡ n) ↔ P) → ((answered (done vs) lent).count ≡ n) ↔ P
count_is vs lent room exactly =
    let e : (answered (done vs) lent).count ≡ length vs = sym (ap (λ (a : Answer). a.count) (handed_all vs lent room refl refl).0) in
    ((λ z. exactly.0 (sym e ∙ z)), (λ p. e ∙ exactly.1 p))

-- done with count 0: with or without room where there are no numbers; where there are two, the count is 2, or the status is FULL
pub none_counted : (x : Option Fraction) (lent : List ℕ) → (answered (done (ratio_numbers x)) lent ≡ counted (done 0)) ↔ (x ≡ None)
unfolding answered
none_counted None lent = ((λ e. refl), (λ e. sym (handed_all [] lent (omega arith) refl refl).0))
none_counted (Some f) lent = (
  (λ e.
      by_test (leb 2 (length lent))
      (λ t. let z : ◌≡◌ {A = ℕ} 2 0 = ap (λ (a : Answer). a.count) (rw t at e) in absurd (omega arith))
      (λ f. let z : ◌≡◌ {A = ℕ} 12 0 = ap (λ (a : Answer). a.status) (rw f at e) in absurd (omega arith))),
  (λ e. let z : ◌≡◌ {A = ℕ} 0 1 = cc in absurd (omega arith)),
)

-- ── colour ──

-- colour is not given
abbrev pub Plain : DisplayExtension → Type 0
Plain d = d.colour ≡ None

-- and given
abbrev pub ColourGiven : Option Colour → Type 0
ColourGiven c = (primaries : ℕ) × ((transfer : ℕ) × ((matrix : ℕ) × (c ≡ Some (record { primaries = primaries; transfer = transfer; matrix = matrix }))))

abbrev pub Coloured : DisplayExtension → Type 0
Coloured d = ColourGiven d.colour

no_colour : (c : Option Colour) → (length (colour_numbers c) ≡ 0) ↔ (c ≡ None)
no_colour None = ((λ e. refl), (λ e. refl))
no_colour (Some given) = ((λ e. absurd (omega arith)), (λ e. let z : ◌≡◌ {A = ℕ} 0 1 = cc in absurd (omega arith)))

colour_there : (c : Option Colour) → (length (colour_numbers c) ≡ 3) ↔ ColourGiven c
colour_there None = ((λ e. absurd (omega arith)), (λ w. let e = w.1.1.1 in let z : ◌≡◌ {A = ℕ} 0 1 = cc in absurd (omega arith)))
colour_there (Some given) = ((λ e. (given.primaries, (given.transfer, (given.matrix, refl)))), (λ w. refl))

plain_five : (d : DisplayExtension) → (length (display_numbers d) ≡ 5) ↔ Plain d
unfolding display_numbers
plain_five d = let h = no_colour d.colour in ((λ e. h.0 (omega arith)), (λ p. let z = h.1 p in omega arith))

coloured_eight : (d : DisplayExtension) → (length (display_numbers d) ≡ 8) ↔ Coloured d
unfolding display_numbers
coloured_eight d = let h = colour_there d.colour in ((λ e. h.0 (omega arith)), (λ p. let z = h.1 p in omega arith))

-- ── a group ──

-- a display extension that is so is given
abbrev pub Shown : (DisplayExtension → Type 0) → Option DisplayExtension → Type 0
Shown P s = (d : DisplayExtension) × (s ≡ Some d) × P d

no_display : (s : Option DisplayExtension) → (length (shown_numbers s) ≡ 0) ↔ (s ≡ None)
unfolding display_numbers
no_display None = ((λ e. refl), (λ e. refl))
no_display (Some d) = ((λ e. absurd (omega arith)), (λ e. let z : ◌≡◌ {A = ℕ} 0 1 = cc in absurd (omega arith)))

display_there : (P : DisplayExtension → Type 0) (n : ℕ) → 0 < n → ((d : DisplayExtension) → (length (display_numbers d) ≡ n) ↔ P d) → (s : Option DisplayExtension) → (length (shown_numbers s) ≡ n) ↔ Shown P s
display_there P n some exactly None = ((λ e. absurd (omega arith)), (λ w. let e = w.1 in let z : ◌≡◌ {A = ℕ} 0 1 = cc in absurd (omega arith)))
display_there P n some exactly (Some d) = (
  (λ e. (d, refl, (exactly d).0 e)),
  (λ w. let e = w.1 in let q : w.0 ≡ d = cc in (exactly d).1 (subst P q w.2)),
)

-- fourteen numbers stand before them
after_header : {P : Type 0} (h : SequenceHeader) (ns : List ℕ) (n : ℕ) → ((length ns ≡ n) ↔ P) → (length (header_numbers h ++ ns) ≡ 14 + n) ↔ P
unfolding header_numbers
after_header h ns n exactly = ((λ e. exactly.0 (omega arith)), (λ p. let z = exactly.1 p in omega arith))

module _ (x : GroupRecord) where
  pub group_bare : (length (group_numbers x) ≡ 14) ↔ (x.display ≡ None)
  group_bare = after_header x.header (shown_numbers x.display) 0 (no_display x.display)

  pub group_plain : (length (group_numbers x) ≡ 19) ↔ Shown Plain x.display
  group_plain = after_header x.header (shown_numbers x.display) 5 (display_there Plain 5 (omega arith) plain_five x.display)

  pub group_coloured : (length (group_numbers x) ≡ 22) ↔ Shown Coloured x.display
  group_coloured = after_header x.header (shown_numbers x.display) 8 (display_there Coloured 8 (omega arith) coloured_eight x.display)

-- ── an extension ──

-- it is a display extension that is so
abbrev pub Displays : (DisplayExtension → Type 0) → ExtensionBody → Type 0
Displays P y = (d : DisplayExtension) × (y ≡ extensionBody.Display d) × P d

extension_shows : (P : DisplayExtension → Type 0) (n : ℕ) → 4 < n → ((d : DisplayExtension) → (length (display_numbers d) ≡ n) ↔ P d) → (y : ExtensionBody) → (length (extension_numbers y) ≡ suc n) ↔ Displays P y
unfolding copyright_numbers
extension_shows P n more exactly (extensionBody.Display d) = (
  (λ e. (d, refl, (exactly d).0 (omega arith))),
  (λ w. let e = w.1 in let q : w.0 ≡ d = cc in ap suc ((exactly d).1 (subst P q w.2))),
)
extension_shows P n more exactly (extensionBody.Copyright c) = ((λ e. absurd (omega arith)), (λ w. let e = w.1 in let z : ◌≡◌ {A = ℕ} 0 1 = cc in absurd (omega arith)))
extension_shows P n more exactly (extensionBody.Opaque k) = ((λ e. absurd (omega arith)), (λ w. let e = w.1 in let z : ◌≡◌ {A = ℕ} 0 1 = cc in absurd (omega arith)))

pub extension_plain : (y : ExtensionBody) → (length (extension_numbers y) ≡ 6) ↔ Displays Plain y
extension_plain y = extension_shows Plain 5 (omega arith) plain_five y

pub extension_coloured : (y : ExtensionBody) → (length (extension_numbers y) ≡ 9) ↔ Displays Coloured y
extension_coloured y = extension_shows Coloured 8 (omega arith) coloured_eight y

pub extension_copyright : (y : ExtensionBody) → (length (extension_numbers y) ≡ 5) ↔ ((c : CopyrightExtension) × (y ≡ extensionBody.Copyright c))
unfolding display_numbers copyright_numbers
extension_copyright (extensionBody.Display d) = ((λ e. absurd (omega arith)), (λ w. let e = w.1 in let z : ◌≡◌ {A = ℕ} 0 1 = cc in absurd (omega arith)))
extension_copyright (extensionBody.Copyright c) = ((λ e. (c, refl)), (λ w. refl))
extension_copyright (extensionBody.Opaque k) = ((λ e. absurd (omega arith)), (λ w. let e = w.1 in let z : ◌≡◌ {A = ℕ} 0 1 = cc in absurd (omega arith)))

pub extension_opaque : (y : ExtensionBody) → (length (extension_numbers y) ≡ 1) ↔ ((number : ℕ) × (y ≡ extensionBody.Opaque number))
unfolding display_numbers copyright_numbers
extension_opaque (extensionBody.Display d) = ((λ e. absurd (omega arith)), (λ w. let e = w.1 in let z : ◌≡◌ {A = ℕ} 0 1 = cc in absurd (omega arith)))
extension_opaque (extensionBody.Copyright c) = ((λ e. absurd (omega arith)), (λ w. let e = w.1 in let z : ◌≡◌ {A = ℕ} 0 1 = cc in absurd (omega arith)))
extension_opaque (extensionBody.Opaque k) = ((λ e. (k, refl)), (λ w. refl))
