-- The laws of a byte's bits put after those of a number, one by one.
use Prim.Native.Nat.{ℕ, ◌+◌, ◌*◌, ◌/◌, ◌%◌, ◌^◌, ◌≤◌, ◌<◌}
use mathlib.Core.Path.{◌≡◌, refl, sym, ◌∙◌}
use native.Mathlib.Omega.{arith}
use native.Mathlib.Numerals.{add-one}
use native.Mathlib.Nat.{pow-succ', div-lt_iff_lt-mul, div-div-eq-div-mul}
use lib.ListN.{get_or}
use lib.Pow.{pow_pos, pow_mono}
use lib.Seq.{take-suc}
use Rattle.bits.specs.Bits.{bits_in}
use Rattle.bits.proofs.BitLaws.{length_in, in_snoc}
use Rattle.payload.specs.Inside.{Joined}

pub joined_none : (v byte : ℕ) → Joined v byte 0 (v % 256)
unfolding bits_in
joined_none v byte = record { older = omega arith; bits = refl }

module _ (v byte j w : ℕ) (g : Joined v byte j w) where
  pub joined_small : j ≤ 8 → w < 65536
  joined_small h =
      let o = g.older in
      let s : w < 256 * 2 ^ j = (div-lt_iff_lt-mul (pow_pos j)).0 (omega arith) in
      omega (arith, pow_mono {i = j} {j = 8} h)

  pub joined_more : (b : ℕ) → j < 8 → b ≡ get_or (bits_in 8 byte) j 0 → b < 2 → Joined v byte (j + 1) (w * 2 + b)
  joined_more b h e s =
      let d : (w * 2 + b) / 2 ≡ w = omega arith in
      let m : (w * 2 + b) % 2 ≡ b = omega arith in
      let l = length_in 8 byte in
      record {
        older = rw (add-one, pow-succ' 2 j, ← div-div-eq-div-mul (w * 2 + b) 2 (2 ^ j), d) g.older;
        bits = rw add-one (in_snoc j (w * 2 + b) ∙ rw (d, m, g.bits, e) (sym (take-suc (bits_in 8 byte) j 0 (omega arith))));
      }
