-- What is proved of bits beyond the contracts of the functions.
use Rattle.std.specs.Prelude.{None, Ok, Err}
use Prim.Native.Nat.{ℕ, ◌-◌, ◌^◌, ◌<◌}
use mathlib.Core.Path.{◌≡◌}
use mathlib.Core.Logic.{◌↔◌}
use mathlib.Core.List.{List, ◌++◌}
use lib.ListN.{length, take, drop}
use Rattle.bits.specs.Lists.{All}
use Rattle.bits.specs.Bits.{bits_in, payload, bit_at, read_at, pack}
use Rattle.bits.proofs.BitLaws.{Binary}
use Rattle.bits.proofs.PackingLaws.{packed_payload}
use Rattle.bits.proofs.ReadLaws as proof

-- The fact that carries reading, for every width: a read gives n exactly where the bits from its place on are those that write n.
pub read_exactly : (bytes : List ℕ) (count place width n : ℕ) →
    (read_at (payload bytes count) place width ≡ Ok n)
    ↔ ((n < 2 ^ width) × (take width (drop place (payload bytes count)) ≡ bits_in width n))
read_exactly = proof.value_exactly

-- Bits are missing exactly where fewer are left than the read wants, and by how many they are fewer.
pub missing_exactly : (bits : List ℕ) (place width m : ℕ) →
    (read_at bits place width ≡ Err m) ↔ ((length bits - place < width) × (m ≡ width - (length bits - place)))
missing_exactly = proof.missing_exactly

-- A single bit is missing as 1.
pub bit_missing_one : (bits : List ℕ) (place : ℕ) → (bit_at bits place ≡ None) ↔ (read_at bits place 1 ≡ Err 1)
bit_missing_one = proof.bit_missing_one

-- What is packed is read back as it was: the filling after it is no part of the payload.
pub unpacked : (bits rest : List ℕ) → All Binary bits → payload (pack bits ++ rest) (length bits) ≡ bits
unpacked = packed_payload
