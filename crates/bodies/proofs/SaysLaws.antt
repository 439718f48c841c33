-- Answers are one-to-one: each can be told from what it gives, and that from what it says.
use Rattle.std.proofs.Common.{Result, Ok, Err}
use Prim.Native.Nat.{ℕ}
use mathlib.Core.Path.{◌≡◌, refl, ap}
use mathlib.Core.List.{List, [], ◌∷◌}
use mathlib.Core.Bool.{cond}
use lib.Dec.{eqb}
use Rattle.answers.specs.Answers.{Carried, at_offset, at_bit, missing, Outcome, done, refused, OneToOne, SHORT, MARKER, STUFFING}
use Rattle.answers.proofs.OutcomeLaws.{undone}
use Rattle.bodies.specs.Answers.{value_number, fault_number, fault_bit, answer_of}
use Rattle.layout.specs.declared.JudgedField.{JudgedField}
use Rattle.layout.specs.declared.JudgedField.TheVariants.{Width, Height, Chroma, Precision, Aspect, Rate, Transfer, Matrix, Stereo, CopyrightOwner, CopyrightNumber}
use Rattle.layout.specs.declared.Fault.{Fault}
use Rattle.layout.specs.declared.Fault.TheVariants.{Short, Marker, Value, Stuffing}

-- ── what is wrong with a body ──

-- a field from its number
abbrev field_of : ℕ → JudgedField
field_of n =
    cond (eqb n 20) Width (cond (eqb n 21) Height (cond (eqb n 22) Chroma (cond (eqb n 23) Precision (cond (eqb n 24) Aspect (cond (eqb n 25) Rate
    (cond (eqb n 26) Transfer (cond (eqb n 27) Matrix (cond (eqb n 28) Stereo (cond (eqb n 29) CopyrightOwner CopyrightNumber)))))))))

-- a fault from its number and its bit
abbrev at_bit_lem : (ℕ → Fault) → List Carried → Fault
at_bit_lem fault [] = Short
at_bit_lem fault (at_offset n ∷ more) = Short
at_bit_lem fault (at_bit n ∷ more) = fault n
at_bit_lem fault (missing n ∷ more) = Short

pub fault_of : ℕ → List Carried → Fault
fault_of n carried = cond (eqb n SHORT) Short (cond (eqb n STUFFING) Stuffing (cond (eqb n MARKER) (at_bit_lem Marker carried) (at_bit_lem (Value (field_of n)) carried)))

value_of : (field : JudgedField) (at : ℕ) → fault_of (value_number field) (at_bit at ∷ []) ≡ Value field at
unfolding fault_of value_number
value_of Width at = refl
value_of Height at = refl
value_of Chroma at = refl
value_of Precision at = refl
value_of Aspect at = refl
value_of Rate at = refl
value_of Transfer at = refl
value_of Matrix at = refl
value_of Stereo at = refl
value_of CopyrightOwner at = refl
value_of CopyrightNumber at = refl

pub fault_of_lem : (fault : Fault) → fault_of (fault_number fault) (fault_bit fault) ≡ fault
unfolding fault_of fault_number fault_bit
fault_of_lem Short = refl
fault_of_lem (Marker at) = refl
fault_of_lem (Value field at) = value_of field at
fault_of_lem Stuffing = refl

-- a value or a fault from what is said of it
result_of : {A : Type 0} → Outcome A → Result A Fault
result_of (done a) = Ok a
result_of (refused n carried) = Err (fault_of n carried)

result_of_lem : {A : Type 0} (r : Result A Fault) → result_of (answer_of r) ≡ r
unfolding result_of answer_of
result_of_lem (Ok a) = refl
result_of_lem (Err fault) = ap Err (fault_of_lem fault)

pub answer_one : {A : Type 0} → OneToOne (answer_of {A = A})
answer_one = undone answer_of result_of result_of_lem
