-- Reading a body by its layout, as a computation: SHORT, then the fields in bit order, then the rules across fields, then STUFFING.
use Rattle.std.specs.Prelude.{ℕ, ◌+◌, List, [], ◌∷◌, Bool, true, false, ◌&&◌, not, length, drop, eqb, leb, ltb, Result, Ok, Err}
use Rattle.std.proofs.Math.Option.{Option, none, some}
use Rattle.answers.specs.Results.{◌>>=◌}
use Rattle.bits.specs.Bits.{bits_of, read_at, read_or}
use Rattle.layout.specs.Layouts.{width_of, rule_of, fields, bit_count, least_bytes}
use Rattle.layout.specs.Values.{Ownership, ownership}
use Rattle.layout.specs.declared.JudgedField.TheVariants.{CopyrightOwner, CopyrightNumber}
use Rattle.layout.specs.declared.Values.{Values}
use Rattle.layout.specs.declared.Values.TheVariants.{Only, But, Within, WithinBut}
use Rattle.layout.specs.declared.Rule.{Rule}
use Rattle.layout.specs.declared.Rule.TheVariants as rule
use Rattle.layout.specs.declared.Field.{Field}
use Rattle.layout.specs.declared.Layout.{Layout}
use Rattle.layout.specs.declared.Layout.TheVariants.{Header, Display, Coloured, Copyright}
use Rattle.layout.specs.declared.Fault.{Fault}
use Rattle.layout.specs.declared.Fault.TheVariants.{Short, Marker, Value, Stuffing}

infixl 10 ◌>>◌
-- ── results: what was read, or what is wrong ──

abbrev pub Reading : Type 0 → Type 0
Reading A = Result A Fault

-- nothing is wrong, or what is
abbrev pub Verdict : Type 0
Verdict = Reading (Unit {0})

-- a verdict on a line of its own: what follows stands where nothing is wrong
abbrev pub ◌>>◌ : {A : Type 0} → Verdict → Reading A → Reading A
◌>>◌ (Ok fine) rest = rest
◌>>◌ (Err fault) rest = Err fault

-- a fault where the test holds
abbrev pub refuse_if : Bool → Fault → Verdict
refuse_if true fault = Err fault
refuse_if false fault = Ok tt

-- the first verdict that finds a fault
abbrev pub both : Verdict → Verdict → Verdict
both verdict other = verdict >> other

-- bits that are not there are SHORT, which is about bytes: it does not say how many
abbrev pub read_value : Result ℕ ℕ → Reading ℕ
read_value r = read_or Ok (λ _. Err Short) r

-- ── a body ──

-- fewer bytes than asked for
abbrev pub short : Layout → List ℕ → Bool
short layout body = ltb (length body) (least_bytes layout)

-- whether a value is allowed
unfoldable pub allows : Values → ℕ → Bool
allows (Only one) v = eqb v one
allows (But one) v = not (eqb v one)
allows (Within least greatest) v = leb least v && leb v greatest
allows (WithinBut least greatest one) v = leb least v && leb v greatest && not (eqb v one)

-- what is found of a field by its rule, from its value and its first bit
unfoldable pub ruled : Rule → ℕ → ℕ → Verdict
ruled rule.Any v at = Ok tt
ruled rule.Set v at = refuse_if (not (eqb v 1)) (Marker at)
ruled (rule.Judged field values) v at = refuse_if (not (allows values v)) (Value field at)

-- the values of fields, of which the first begins at bit `at`
unfoldable pub values_of : List Field → ℕ → List ℕ → Reading (List ℕ)
values_of [] at bits = Ok []
values_of (f ∷ fs) at bits = do
  v ← read_value (read_at bits at (width_of f))
  vs ← values_of fs (at + width_of f) bits
  Ok (v ∷ vs)

-- the first field whose rule is broken; the first field of all begins at bit `at`
unfoldable pub judge : List Field → ℕ → List ℕ → Verdict
judge [] at vs = Ok tt
judge (f ∷ fs) at [] = Err Short
judge (f ∷ fs) at (v ∷ vs) = both (ruled (rule_of f) v at) (judge fs (at + width_of f) vs)

-- After the last field of a copyright extension, VALUE if flag 0 with owner not 0, or owner 0 with number not 0.
-- Owner begins at bit 5, part one at bit 22.
unfoldable pub owner_rules : Ownership → Verdict
owner_rules c =
    both (refuse_if (eqb c.flag 0 && not (eqb c.owner 0)) (Value CopyrightOwner 5))
    (refuse_if (eqb c.owner 0 && not (eqb c.number 0)) (Value CopyrightNumber 22))

-- values that are not there are SHORT
abbrev pub owned_by : Option Ownership → Verdict
owned_by none = Err Short
owned_by (some c) = owner_rules c

-- the rules across fields
unfoldable pub cross : Layout → List ℕ → Verdict
cross Header vs = Ok tt
cross Display vs = Ok tt
cross Coloured vs = Ok tt
cross Copyright vs = owned_by (ownership vs)

-- what values are refused for
unfoldable pub judged : Layout → List ℕ → Verdict
judged layout vs = both (judge (fields layout) 0 vs) (cross layout vs)

-- only zeros
abbrev pub all_zero : List ℕ → Bool
all_zero [] = true
all_zero (b ∷ l) = eqb b 0 && all_zero l

-- one 1, then only zeros
abbrev pub stuffing : List ℕ → Bool
stuffing [] = false
stuffing (b ∷ l) = eqb b 1 && all_zero l

-- After the fields: one 1 bit, zeros to the byte's end, then only zero bytes; otherwise STUFFING.
unfoldable pub ended : Layout → List ℕ → Verdict
ended layout body = refuse_if (not (stuffing (drop (bit_count (fields layout)) (bits_of body)))) Stuffing

-- the values of a body's fields, or what is wrong
unfoldable pub reading : Layout → List ℕ → Reading (List ℕ)
reading layout body = do
  refuse_if (short layout body) Short
  vs ← values_of (fields layout) 0 (bits_of body)
  judged layout vs
  ended layout body
  Ok vs
