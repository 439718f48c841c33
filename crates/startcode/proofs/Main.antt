-- What is proved of start codes beyond the contracts of the functions.
use Prim.Native.Nat.{ℕ, ◌+◌, ◌*◌, ◌/◌, ◌≤◌, ◌<◌}
use mathlib.Core.Path.{◌≡◌}
use mathlib.Core.Logic.{◌↔◌, ◌⊎◌}
use mathlib.Core.List.{List, [], ◌++◌}
use mathlib.Core.Bool.{◌||◌}
use lib.Dec.{leb, eqb}
use lib.ListN.{length}
use Rattle.answers.specs.Answers.{Carried, refused, OneToOne, UNKNOWN}
use Rattle.bits.specs.Lists.{All}
use Rattle.startcode.specs.Prefix.{next_prefix, steps, First}
use Rattle.startcode.specs.Kinds.{kind_of, kind_says}
use Rattle.startcode.proofs.Theorems.{is_unknown}
use Rattle.startcode.proofs.Theorems as proof
use Rattle.startcode.proofs.StepLaws as step

-- The search finds the first 00 00 01 at or after a place, and misses none.
pub search_first : (stream : List ℕ) (from : ℕ) → First stream from (next_prefix stream from)
search_first = proof.search_first

-- There is only one such place.
pub first_once : {stream : List ℕ} {from a b : ℕ} → First stream from a → First stream from b → a ≡ b
first_once = proof.first_once

-- E3: over n bytes none of which is 00 it takes at most n/3 + 1 steps. The function that searches counts those that it takes.
pub few_steps : (bytes : List ℕ) → All (λ (byte : ℕ). ¬ (byte ≡ 0)) bytes → steps bytes ≤ length bytes / 3 + 1
few_steps = step.few_steps

-- Every three bytes none of which is 00 are one step, whatever comes after them.
pub steps_over : (q : ℕ) (bytes rest : List ℕ) → length bytes ≡ q * 3 → All (λ (byte : ℕ). ¬ (byte ≡ 0)) bytes → steps (bytes ++ rest) ≡ q + steps rest
steps_over = step.steps_over

-- Over any bytes it takes at most one a byte.
pub most_steps : (bytes : List ℕ) → steps bytes ≤ length bytes
most_steps = step.most_steps

-- No two answers of `kind_of` say the same in document 01's terms.
pub kind_one_to_one : OneToOne kind_says
kind_one_to_one = proof.kind_one_to_one

-- The bytes that no kind has are those that document 01 lists under UNKNOWN: B4, B8, and B9 to FF.
pub unknown_bytes : (byte : ℕ) → byte < 256 → is_unknown (kind_of byte) ≡ (eqb byte 0xB4 || leb 0xB8 byte)
unknown_bytes = proof.unknown_bytes

-- For them UNKNOWN is answered, which carries nothing, and no other refusal is given.
pub unknown_iff : (byte number : ℕ) (carried : List Carried) → byte < 256
    → (kind_of byte ≡ refused number carried) ↔ ((number ≡ UNKNOWN) × (carried ≡ []) × ((byte ≡ 0xB4) ⊎ (0xB8 ≤ byte)))
unknown_iff = proof.unknown_iff
