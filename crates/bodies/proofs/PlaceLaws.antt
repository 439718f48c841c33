-- The bit that a body's refusal carries is one of its fields' bits.
use Prim.Native.Nat.{ℕ, ◌<◌}
use mathlib.Core.Path.{◌≡◌, refl, sym, subst}
use mathlib.Core.List.{List, [], ◌∷◌}
use native.Mathlib.Omega.{arith}
use Rattle.answers.specs.Answers.{at_bit}
use Rattle.layout.specs.Layouts.{placed_at}
use Rattle.layout.specs.Breaks.{Breaks}
use Rattle.layout.specs.declared.Name.TheVariants as name
use Rattle.layout.specs.declared.Layout.{Layout}
use Rattle.layout.specs.declared.Layout.TheVariants.{Display, Coloured, Copyright}
use Rattle.layout.specs.declared.Fault.{Fault}
use Rattle.layout.specs.declared.Fault.TheVariants.{Short, Marker, Value, Stuffing}
use Rattle.layout.proofs.LayoutLaws.{table}
use Rattle.layout.proofs.PlaceLaws.{value_begins, marker_begins, begins_inside}
use Rattle.bodies.specs.Answers.{fault_bit}
use Rattle.bodies.specs.Breaks.{BreaksDisplay, short_display, coloured, plain, BreaksExtension, empty}
use Rattle.bodies.specs.Breaks as breaks
use Rattle.bodies.specs.declared.Scope.{Scope}

-- the longest layout has 112 bits
abbrev pub BitInside : Fault → Type 0
BitInside why = (b : ℕ) → fault_bit why ≡ at_bit b ∷ [] → b < 112

-- a fault that carries no bit
pub bitless_inside : (f why : Fault) → fault_bit f ≡ [] → why ≡ f → BitInside why
bitless_inside f why n e = subst BitInside (sym e) (λ b i. let z : ◌≡◌ {A = ℕ} 0 1 = cc in absurd (omega arith))

short_inside : (why : Fault) → why ≡ Short → BitInside why
unfolding fault_bit
short_inside why e = bitless_inside Short why refl e

pub layout_inside : (layout : Layout) (body : List ℕ) (why : Fault) → Breaks layout body why → BitInside why
unfolding fault_bit
layout_inside layout body Short h b e = let z : ◌≡◌ {A = ℕ} 0 1 = cc in absurd (omega arith)
layout_inside layout body (Marker at) h b e =
    let i : at ≡ b = cc in
    let s = (table layout).small in
    let k = begins_inside layout name.Marker at (marker_begins layout body at h) in
    omega arith
layout_inside layout body (Value field at) h b e =
    let i : at ≡ b = cc in
    let s = (table layout).small in
    let k = begins_inside layout (placed_at field) at (value_begins layout body field at h) in
    omega arith
layout_inside layout body Stuffing h b e = let z : ◌≡◌ {A = ℕ} 0 1 = cc in absurd (omega arith)

pub display_inside : (body : List ℕ) (why : Fault) → BreaksDisplay body why → BitInside why
display_inside body why (short_display s e) = short_inside why e
display_inside body why (coloured l c h) = layout_inside Coloured body why h
display_inside body why (plain l c h) = layout_inside Display body why h

pub extension_inside : (scope : Scope) (body : List ℕ) (why : Fault) → BreaksExtension scope body why → BitInside why
extension_inside scope body why (empty n e) = short_inside why e
extension_inside scope body why (breaks.copyright n h) = layout_inside Copyright body why h
extension_inside scope body why (breaks.display n s h) = display_inside body why h
