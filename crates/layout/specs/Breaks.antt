-- Document 01, "Refusal numbers": what keeps a body from obeying its layout. SHORT comes first, then the fields in bit order,
-- then the rules across fields, then the end. No field is read here: its value is the one whose bits stand in the body.
use Rattle.std.specs.Prelude.{ℕ, ◌+◌, ◌≤◌, ◌<◌, ◌≡◌, ◌≢◌, List, ◌∷◌, ◌++◌, length, replicate}
use Rattle.std.proofs.Math.Option.{some}
use Rattle.bits.specs.Bits.{bits_of}
use Rattle.layout.specs.Layouts.{rule_of, Wrong, fields, bit_count, Begins, least_bytes}
use Rattle.layout.specs.Values.{Ownership, ownership}
use Rattle.layout.specs.Obeys.{Fits, AllAllowed, Crossed, written}
use Rattle.layout.specs.declared.Name.TheVariants.{Owner, PartOne}
use Rattle.layout.specs.declared.JudgedField.TheVariants.{CopyrightOwner, CopyrightNumber}
use Rattle.layout.specs.declared.Field.{Field}
use Rattle.layout.specs.declared.Layout.{Layout}
use Rattle.layout.specs.declared.Layout.TheVariants.{Header, Display, Coloured, Copyright}
use Rattle.layout.specs.declared.Fault.{Fault}
use Rattle.layout.specs.declared.Fault.TheVariants as fault

-- the body has the bytes asked for, its fields have the values vs, and `end` are the bits after them
pub record Holds (layout : Layout) (body vs end : List ℕ) : Type 0 where
  pub long : least_bytes layout ≤ length body
  pub fits : Fits (fields layout) vs
  pub bits : bits_of body ≡ written (fields layout) vs ++ end

-- The first field whose rule is broken, and what it is refused for. The first field of all begins at bit `at`, so this one's first bit is
-- that and the sum of the widths before it.
pub record FirstWrong (fs : List Field) (at : ℕ) (vs : List ℕ) (why : Fault) : Type 0 where
  pub before : List Field
  pub field : Field
  pub after : List Field
  pub earlier : List ℕ
  pub value : ℕ
  pub later : List ℕ
  pub all_fields : fs ≡ before ++ (field ∷ after)
  pub all_values : vs ≡ earlier ++ (value ∷ later)
  pub allowed : AllAllowed before earlier
  pub broken : Wrong (rule_of field) value (at + bit_count before) why

-- After the last field of a copyright extension, VALUE of the owner if flag 0 with owner not 0, VALUE of the copyright number if owner 0
-- with number not 0. The place is the first bit of the owner, and of part one for the number.
pub data Disowned (c : Ownership) (why : Fault) : Type 0 where
  unflagged : c.flag ≡ 0 → c.owner ≢ 0 → (at : ℕ) → Begins Copyright Owner at → why ≡ fault.Value CopyrightOwner at → Disowned c why
  unowned : c.owner ≡ 0 → c.number ≢ 0 → (at : ℕ) → Begins Copyright PartOne at → why ≡ fault.Value CopyrightNumber at → Disowned c why

-- a rule across fields is broken
unfoldable pub BreaksAcross : Layout → List ℕ → Fault → Type 0
BreaksAcross Header vs why = ⊥
BreaksAcross Display vs why = ⊥
BreaksAcross Coloured vs why = ⊥
BreaksAcross Copyright vs why = (c : Ownership) × (ownership vs ≡ some c) × Disowned c why

-- what a body is refused for
pub data Breaks (layout : Layout) (body : List ℕ) (why : Fault) : Type 0 where
  short : length body < least_bytes layout → why ≡ fault.Short → Breaks layout body why
  wrong : (vs end : List ℕ) → Holds layout body vs end → FirstWrong (fields layout) 0 vs why → Breaks layout body why
  across : (vs end : List ℕ) → Holds layout body vs end → AllAllowed (fields layout) vs → BreaksAcross layout vs why → Breaks layout body why
  ended : (vs end : List ℕ) → Holds layout body vs end → AllAllowed (fields layout) vs → Crossed layout vs →
      ((zeros : ℕ) → end ≢ 1 ∷ replicate zeros 0) → why ≡ fault.Stuffing → Breaks layout body why
