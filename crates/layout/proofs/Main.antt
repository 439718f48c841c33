-- What is proved of bodies and their layouts beyond the contract of reading.
use Rattle.std.proofs.Common.{Ok, Err}
use Prim.Native.Nat.{ℕ, ◌/◌, ◌%◌, ◌^◌, ◌<◌}
use mathlib.Core.Path.{◌≡◌, sym, ◌∙◌}
use mathlib.Core.Logic.{◌↔◌}
use mathlib.Core.List.{List}
use lib.ListN.{length}
use Rattle.answers.proofs.ResultLaws.{ok_same}
use Rattle.layout.specs.Layouts.{fields, bit_count, Begins, placed_at, least_bytes}
use Rattle.layout.specs.Values.{copyright_number}
use Rattle.layout.specs.Obeys.{Obeys}
use Rattle.layout.specs.Breaks.{Breaks}
use Rattle.layout.specs.Reader.{reading}
use Rattle.layout.specs.declared.Name.{Name}
use Rattle.layout.specs.declared.Name.TheVariants.{Marker}
use Rattle.layout.specs.declared.JudgedField.{JudgedField}
use Rattle.layout.specs.declared.Layout.{Layout}
use Rattle.layout.specs.declared.Fault.{Fault}
use Rattle.layout.specs.declared.Fault.TheVariants as fault
use Rattle.layout.proofs.JudgeLaws.{reading_short}
use Rattle.layout.proofs.ObeyLaws.{obeys_if, if_obeys}
use Rattle.layout.proofs.BreakLaws.{breaks_if, if_breaks, short_if}
use Rattle.layout.proofs.OwnerLaws as owners
use Rattle.layout.proofs.PlaceLaws as places

-- Reading gives values exactly where the body obeys its layout with them.
pub obeys_iff : (layout : Layout) (body vs : List ℕ) → (reading layout body ≡ Ok vs) ↔ Obeys layout body vs
obeys_iff layout body vs = (obeys_if layout body vs, if_obeys layout body vs)

-- A body has no other values.
pub values_once : (layout : Layout) (body vs us : List ℕ) → Obeys layout body vs → Obeys layout body us → vs ≡ us
values_once layout body vs us h k = ok_same (sym (if_obeys layout body vs h) ∙ if_obeys layout body us k)

-- Reading refuses exactly what breaks the layout, for the first thing that does.
pub breaks_iff : (layout : Layout) (body : List ℕ) (why : Fault) → (reading layout body ≡ Err why) ↔ Breaks layout body why
breaks_iff layout body why = (breaks_if layout body why, if_breaks layout body why)

-- The bit of a value that is refused is its field's first bit, the sum of the widths before it; that of the copyright number is part
-- one's.
pub value_begins : (layout : Layout) (body : List ℕ) (field : JudgedField) (at : ℕ) → Breaks layout body (fault.Value field at) → Begins layout (placed_at field) at
value_begins = places.value_begins

-- The bit of a marker that is refused is its own.
pub marker_begins : (layout : Layout) (body : List ℕ) (at : ℕ) → Breaks layout body (fault.Marker at) → Begins layout Marker at
marker_begins = places.marker_begins

-- Every such bit is one of the fields' bits.
pub begins_inside : (layout : Layout) (name : Name) (at : ℕ) → Begins layout name at → at < bit_count (fields layout)
begins_inside = places.begins_inside

-- SHORT is given exactly for a body of fewer bytes than asked for.
pub short_iff : (layout : Layout) (body : List ℕ) → (reading layout body ≡ Err fault.Short) ↔ (length body < least_bytes layout)
short_iff layout body = (short_if layout body, reading_short layout body)

-- A copyright number has these parts exactly where it is one × 2^44 + two × 2^22 + three, of parts that fit their fields.
pub number_parts : (n one two three : ℕ) → two < 2 ^ 22 → three < 2 ^ 22 →
    (n ≡ copyright_number one two three) ↔ ((one ≡ n / 2 ^ 44) × (two ≡ n / 2 ^ 22 % 2 ^ 22) × (three ≡ n % 2 ^ 22))
number_parts = owners.number_parts
