-- What is proved of payloads beyond the contracts of the functions.
use Prim.Native.Nat.{ℕ, ◌≤◌, ◌<◌}
use mathlib.Core.Path.{◌≡◌}
use mathlib.Core.Logic.{◌↔◌}
use mathlib.Core.List.{List, []}
use lib.IntN.{ℤ}
use lib.ListN.{length}
use Rattle.answers.specs.Answers.{done, refused, map_done, VALUE, TOO_LONG, OneToOne}
use Rattle.answers.specs.Limits.{longest_payload}
use Rattle.answers.specs.Missing.{payload_out, SaysMissing}
use Rattle.bits.specs.Bits.{payload}
use Rattle.payload.specs.Escape.{unescaped, removal, output_after, removed_says}
use Rattle.payload.specs.declared.Numbered.{Numbered}
use Rattle.payload.specs.Golomb.{with_sign, Coded, TooManyZeros, EndsFirst, golomb_says}
use Rattle.payload.specs.Reader.{golomb, signed_golomb}
use Rattle.payload.proofs.Theorems as proof
use Rattle.payload.proofs.GolombTheorems as exactly

-- What removal wrote is read back as the payload's bits without its escape bits: the filling is never read.
pub removed_payload : (raw output : List ℕ) (count : ℕ) → removal raw (length output) ≡ done count →
    payload (output_after (done count) raw output) count ≡ unescaped raw
removed_payload = proof.removed_payload

-- The Exp-Golomb number at a place, and each refusal, exactly when: by how the bits from there on begin.
pub golomb_iff : (bytes : List ℕ) (count place : ℕ) (m : Numbered ℕ) →
    (golomb bytes count place ≡ done m) ↔ ((length bytes ≤ longest_payload) × Coded (payload bytes count) place m)
golomb_iff = exactly.golomb_iff

pub golomb_value_iff : (bytes : List ℕ) (count place : ℕ) →
    (golomb bytes count place ≡ refused VALUE []) ↔ ((length bytes ≤ longest_payload) × TooManyZeros (payload bytes count) place)
golomb_value_iff = exactly.value_iff

-- with m, how many bits are missing
pub golomb_out_iff : (bytes : List ℕ) (count place m : ℕ) →
    (golomb bytes count place ≡ payload_out m) ↔ ((length bytes ≤ longest_payload) × EndsFirst (payload bytes count) place m)
golomb_out_iff = exactly.out_iff

pub golomb_long_iff : (bytes : List ℕ) (count place : ℕ) → (golomb bytes count place ≡ refused TOO_LONG []) ↔ (longest_payload < length bytes)
golomb_long_iff = exactly.long_iff

-- 1 to 31 are missing, and PAYLOAD OUT carries nothing else; no other refusal carries anything.
pub golomb_out_range : (bytes : List ℕ) (count place m : ℕ) → golomb bytes count place ≡ payload_out m → (1 ≤ m) × (m ≤ 31)
golomb_out_range = exactly.out_range

pub golomb_missing : (bytes : List ℕ) (count place : ℕ) → SaysMissing (golomb bytes count place)
golomb_missing = exactly.golomb_missing

pub signed_missing : (bytes : List ℕ) (count place : ℕ) → SaysMissing (signed_golomb bytes count place)
signed_missing = exactly.signed_missing

-- The signed answer is the unsigned one, with what its number stands for.
pub signed_is : (bytes : List ℕ) (count place : ℕ) → signed_golomb bytes count place ≡ map_done with_sign (golomb bytes count place)
signed_is = exactly.signed_is

-- No two answers say the same in document 01's terms.
pub removed_one_to_one : OneToOne removed_says
removed_one_to_one = proof.removed_one_to_one

pub golomb_one_to_one : OneToOne (golomb_says {A = ℕ})
golomb_one_to_one = proof.golomb_one_to_one

pub signed_one_to_one : OneToOne (golomb_says {A = ℤ})
signed_one_to_one = proof.golomb_one_to_one
