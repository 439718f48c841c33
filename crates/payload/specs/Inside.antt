-- What the private functions promise one another; no part of document 01.
use Rattle.std.specs.Prelude.{ℕ, ◌+◌, ◌*◌, ◌/◌, ◌%◌, ◌^◌, ◌<◌, ◌≡◌, List, ◌++◌, cond, ◌&&◌, leb, eqb, length, take, drop}
use Rattle.bits.specs.Bits.{bits_in, pack}
use Rattle.payload.specs.Escape.{unescaped}
use Rattle.payload.specs.declared.packer.Packer.{Packer}

-- how many bits stay of a byte after so many raw bytes 00
abbrev pub kept_width : ℕ → ℕ → ℕ
kept_width zeros byte = cond (leb 2 zeros && eqb byte 2) 6 8

-- the bits that wait to be written
abbrev pub waiting : Packer → List ℕ
waiting p = bits_in p.k p.value

-- the first width bits of a byte stand after the last eight of v
pub record Joined (v byte width r : ℕ) : Type 0 where
  pub older : r / 2 ^ width ≡ v % 256
  pub bits : bits_in width r ≡ take width (bits_in 8 byte)

-- Bits were pushed: with whatever follows, the bytes are those of the bits before, these and what follows.
pub record Pushed (out₀ out : List ℕ) (p₀ p : Packer) (bits : List ℕ) : Type 0 where
  pub same : length out ≡ length out₀
  pub count : p.full * 8 + p.k ≡ p₀.full * 8 + p₀.k + length bits
  pub made : (rest : List ℕ) → take p.full out ++ pack (waiting p ++ rest) ≡ take p₀.full out₀ ++ pack (waiting p₀ ++ (bits ++ rest))
  pub left : drop p.full out ≡ drop p.full out₀

-- all bits of a payload that stay are pushed; those of its last byte may be still to be written
pub record Copied (raw out₀ out : List ℕ) (p : Packer) : Type 0 where
  pub same : length out ≡ length out₀
  pub count : p.full * 8 + p.k ≡ length (unescaped raw)
  pub within : p.full * 8 + p.k < length raw * 8 + 1
  pub made : take p.full out ++ pack (waiting p) ≡ pack (unescaped raw)
  pub left : drop p.full out ≡ drop p.full out₀

-- after the last byte is written, which is filled with zeros; later bytes stay
abbrev pub Filled : List ℕ → List ℕ → Packer → Type 0
Filled out₀ out p = let last = pack (waiting p) in out ≡ take p.full out₀ ++ last ++ drop (p.full + length last) out₀
