-- What is proved of bodies beyond the contracts of the functions.
use Rattle.std.specs.Prelude.{Some, Result, Ok, Err}
use Prim.Native.Nat.{ℕ, ◌/◌, ◌%◌, ◌<◌}
use mathlib.Core.Path.{◌≡◌, sym, ap}
use mathlib.Core.Logic.{◌↔◌, ◌≢◌}
use mathlib.Core.List.{List, [], ◌∷◌, ◌++◌}
use mathlib.Core.Bool.{true}
use mathlib.Core.Option.{some}
use native.Mathlib.Omega.{arith}
use lib.ListN.{get_or, get_elem?}
use Rattle.answers.specs.Answers.{Carried, at_bit, done, refused, OneToOne, SHORT, VALUE}
use Rattle.bits.specs.Bits.{bits_in, bits_of, bit_at}
use Rattle.bodies.specs.Extensions.{HasNumber, ColourGiven, is_opaque}
use Rattle.bodies.specs.Records.{bit_rate}
use Rattle.bodies.specs.Bodies.{HeaderBody, DisplayBody, CopyrightBody}
use Rattle.layout.specs.Breaks.{Holds, Breaks}
use Rattle.bodies.specs.Breaks.{ShortDisplay, BreaksExtension}
use Rattle.bodies.specs.Reader.{header_result, header_of, display_short, extension_result, extension_of}
use Rattle.bodies.specs.Answers.{fault_number, fault_bit, answer_of}
use Rattle.bodies.specs.declared.ExtensionBody.{ExtensionBody}
use Rattle.bodies.specs.declared.ExtensionBody.TheVariants as extension
use Rattle.layout.specs.declared.Layout.TheVariants.{Header, Display, Coloured, Copyright}
use Rattle.layout.specs.declared.Fault.{Fault}
use Rattle.bodies.specs.declared.SequenceHeader.{SequenceHeader}
use Rattle.bodies.specs.declared.DisplayExtension.{DisplayExtension}
use Rattle.bodies.specs.declared.CopyrightExtension.{CopyrightExtension}
use Rattle.bodies.specs.declared.Scope.{Scope}
use Rattle.bodies.specs.declared.Scope.TheVariants.{Head}
use Rattle.bodies.proofs.NumberLaws.{opaque_test}
use Rattle.bodies.proofs.NumberLaws as numbers
use Rattle.bodies.proofs.BreakLaws as breaks
use Rattle.bodies.proofs.PlaceLaws as places
use Rattle.bodies.proofs.ExtensionLaws as laws
use Rattle.bodies.proofs.SaysLaws as says

-- What reading gives is answered, and nothing else is: what is said of answers below holds of readings.
pub answered_iff : {A : Type 0} (r : Result A Fault) (a : A) → (answer_of r ≡ done a) ↔ (r ≡ Ok a)
unfolding answer_of
answered_iff r a = (laws.answer_done r a, ap answer_of)

-- ── sequence header ──

-- The record is that of the body's values, and is answered exactly where the body obeys.
pub header_iff : (body : List ℕ) (h : SequenceHeader) → (header_of body ≡ done h) ↔ HeaderBody body h
header_iff body h = (laws.header_if body h, laws.if_header body h)

-- A bit rate has these parts exactly where it is high × 262,144 + low, of a low part that fits its field.
pub rate_parts : (n high low : ℕ) → low < 262144 → (n ≡ bit_rate high low) ↔ ((high ≡ n / 262144) × (low ≡ n % 262144))
rate_parts n high low h = ((λ e. (omega arith, omega arith)), λ e. omega arith)

-- Reading finds the body faulty exactly for what breaks the layout, field and bit with it.
pub header_faulty_iff : (body : List ℕ) (why : Fault) → (header_result body ≡ Err why) ↔ Breaks Header body why
header_faulty_iff = breaks.header_bad

-- A refusal has the number and the bit of that.
pub header_refused_iff : (body : List ℕ) (number : ℕ) (carried : List Carried) →
    (header_of body ≡ refused number carried) ↔ ((why : Fault) × Breaks Header body why × (number ≡ fault_number why) × (carried ≡ fault_bit why))
unfolding header_of
header_refused_iff body = breaks.refused_iff (header_result body) (Breaks Header body) (breaks.header_bad body)

-- A bit that it carries is one of the fields' bits, of which no layout has more than 112.
pub header_bit : (body : List ℕ) (number bit : ℕ) → header_of body ≡ refused number (at_bit bit ∷ []) → bit < 112
header_bit body number bit e = let (why, b, n, c) = (header_refused_iff body number (at_bit bit ∷ [])).0 e in places.layout_inside Header body why b bit (sym c)

-- ── extensions ──

-- A display record is answered in a group's head, exactly for the bodies of display extensions.
pub display_iff : (scope : Scope) (body : List ℕ) (d : DisplayExtension) → (extension_of scope body ≡ done (extension.Display d)) ↔ ((scope ≡ Head) × DisplayBody body d)
display_iff scope body d = (laws.answers_display scope body d, laws.display_answers scope body d)

-- A copyright record is answered anywhere, exactly for the bodies of copyright extensions.
pub copyright_iff : (scope : Scope) (body : List ℕ) (c : CopyrightExtension) → (extension_of scope body ≡ done (extension.Copyright c)) ↔ CopyrightBody body c
copyright_iff scope body c = (laws.answers_copyright scope body c, laws.copyright_answers scope body c)

-- An extension's number is its body's first four bits.
pub number_iff : (body : List ℕ) (n : ℕ) → HasNumber body n ↔ ((n < 16) × ((rest : List ℕ) × (bits_of body ≡ bits_in 4 n ++ rest)))
number_iff = numbers.bits_iff

-- Any other number, and number 2 after a picture header, is answered alone.
pub opaque_iff : (scope : Scope) (body : List ℕ) (n : ℕ) → (extension_of scope body ≡ done (extension.Opaque n)) ↔ (HasNumber body n × (n ≢ 4) × (scope ≡ Head → n ≢ 2))
opaque_iff scope body n = (laws.answers_opaque scope body n, laws.opaque_answers scope body n)

-- The test of a body with a number says so too, from four bits.
pub is_opaque_iff : (scope : Scope) (body : List ℕ) (n : ℕ) → HasNumber body n → (is_opaque scope body ≡ true) ↔ (extension_of scope body ≡ done (extension.Opaque n))
is_opaque_iff scope body n h =
    let t = opaque_test scope body n h in
    let o = opaque_iff scope body n in ((λ e. let k = t.0 e in o.1 (h, k.0, k.1)), λ e. let k = o.0 e in t.1 (k.1, k.2))

-- Reading finds an extension faulty exactly for what breaks it where it stands, SHORT of a display extension first.
pub extension_faulty_iff : (scope : Scope) (body : List ℕ) (why : Fault) → (extension_result scope body ≡ Err why) ↔ BreaksExtension scope body why
extension_faulty_iff = breaks.extension_bad

-- A refusal has the number and the bit of that.
pub extension_refused_iff : (scope : Scope) (body : List ℕ) (number : ℕ) (carried : List Carried) →
    (extension_of scope body ≡ refused number carried) ↔ ((why : Fault) × BreaksExtension scope body why × (number ≡ fault_number why) × (carried ≡ fault_bit why))
unfolding extension_of
extension_refused_iff scope body = breaks.refused_iff (extension_result scope body) (BreaksExtension scope body) (breaks.extension_bad scope body)

pub extension_bit : (scope : Scope) (body : List ℕ) (number bit : ℕ) → extension_of scope body ≡ refused number (at_bit bit ∷ []) → bit < 112
extension_bit scope body number bit e = let (why, b, n, c) = (extension_refused_iff scope body number (at_bit bit ∷ [])).0 e in places.extension_inside scope body why b bit (sym c)

-- SHORT of a display extension is its own test, so another test can stand between it and the fields.
pub display_short_iff : (body : List ℕ) → HasNumber body 2 → (extension_of Head body ≡ refused SHORT []) ↔ (display_short body ≡ true)
display_short_iff body h = (breaks.answers_short body h, breaks.short_answers body h)

-- It holds exactly for fewer than 6 bytes, or fewer than 9 with colour given.
pub short_display_iff : (body : List ℕ) → (display_short body ≡ true) ↔ ShortDisplay body
short_display_iff = breaks.short_iff

-- The number and the colour bit choose the layout, so their fields have the values that chose it.
pub display_fixed : (body vs end : List ℕ) → Holds Display body vs end → HasNumber body 2 → bit_at (bits_of body) 8 ≡ Some 0 → (get_or vs 0 0 ≡ 2) × (get_or vs 3 0 ≡ 0)
display_fixed = laws.display_fixed

pub coloured_fixed : (body vs end : List ℕ) → Holds Coloured body vs end → HasNumber body 2 → bit_at (bits_of body) 8 ≡ Some 1 → (get_or vs 0 0 ≡ 2) × (get_or vs 3 0 ≡ 1)
coloured_fixed = laws.coloured_fixed

pub copyright_fixed : (body vs end : List ℕ) → Holds Copyright body vs end → HasNumber body 4 → get_or vs 0 0 ≡ 4
copyright_fixed = laws.copyright_fixed

-- The same of values that are there.
pub display_there : (body vs end : List ℕ) → Holds Display body vs end → HasNumber body 2 → ColourGiven body 0 → (get_elem? vs 0 ≡ some 2) × (get_elem? vs 3 ≡ some 0)
display_there = laws.display_there

pub coloured_there : (body vs end : List ℕ) → Holds Coloured body vs end → HasNumber body 2 → ColourGiven body 1 → (get_elem? vs 0 ≡ some 2) × (get_elem? vs 3 ≡ some 1)
coloured_there = laws.coloured_there

pub copyright_there : (body vs end : List ℕ) → Holds Copyright body vs end → HasNumber body 4 → get_elem? vs 0 ≡ some 4
copyright_there = laws.copyright_there

-- ── numbers ──

-- "The old number 8 stays for Exp-Golomb only": no fault has it.
pub no_value : (why : Fault) → fault_number why ≢ VALUE
no_value why = (breaks.fault_apart why).1

-- ── no two answers say the same ──

pub header_one_to_one : OneToOne (answer_of {A = SequenceHeader})
header_one_to_one = says.answer_one

pub extension_one_to_one : OneToOne (answer_of {A = ExtensionBody})
extension_one_to_one = says.answer_one

-- Nothing that is given is said as another: numbers and bits tell all faults apart.
pub answered_one_to_one : {A : Type 0} → OneToOne (answer_of {A = A})
answered_one_to_one = says.answer_one
