-- When the one read succeeds, and when bits are missing.
use Rattle.std.specs.Prelude.{None, Result, Ok, Err}
use Prim.Native.Nat.{ℕ, ◌-◌, ◌^◌, ◌≤◌, ◌<◌}
use mathlib.Core.Path.{◌≡◌, refl, sym, ap, ◌∙◌}
use mathlib.Core.Logic.{◌↔◌}
use mathlib.Core.List.{List, [], ◌∷◌}
use native.Mathlib.Omega.{arith}
use native.Mathlib.Nat.{div-eq_of_lt, div-lt_iff_lt-mul}
use lib.ListN.{length, take, drop, length-drop}
use lib.Pow.{pow_pos}
use Rattle.answers.specs.Answers.{Outcome, done}
use Rattle.answers.proofs.ResultLaws.{not_err}
use Rattle.bits.specs.Bits.{bits_in, payload, bit_at, read_on, read_at, read_or}
use Rattle.bits.proofs.ListLaws.{all_drop}
use Rattle.bits.proofs.BitLaws.{Binary, all_payload, bit_none, bit_missing, read_writes, reads_written, read_lacks, lacks_read}

pub value_exactly : (bytes : List ℕ) (count place width n : ℕ) →
    (read_at (payload bytes count) place width ≡ Ok n)
    ↔ ((n < 2 ^ width) × (take width (drop place (payload bytes count)) ≡ bits_in width n))
unfolding read_at
value_exactly bytes count place width n =
    let l = payload bytes count in (
      λ r.
          let w = read_writes 0 width n (drop place l) (all_drop Binary place l (all_payload bytes count)) r in
          let m = (div-lt_iff_lt-mul {k = 2 ^ width} {x = n} {y = 1} (pow_pos width)).0 (omega (arith, w.1)) in
          (omega arith, w.0),
      λ r. reads_written 0 width n (drop place l) r.1 (div-eq_of_lt r.0),
    )

pub missing_exactly : (bits : List ℕ) (place width m : ℕ) →
    (read_at bits place width ≡ Err m) ↔ ((length bits - place < width) × (m ≡ width - (length bits - place)))
unfolding read_at
missing_exactly bits place width m =
    let d = length-drop place bits in (
      λ r. let (few, is) = read_lacks 0 width m (drop place bits) r in (omega arith, omega arith),
      λ r.
          let (few, is) = r in
          let e : width - length (drop place bits) ≡ m = omega arith in
          lacks_read 0 width (drop place bits) (omega arith) ∙ ap Err e,
    )

-- where enough bits are left a number is read
pub read_there : (bits : List ℕ) (place width : ℕ) → width ≤ length bits - place → (v : ℕ) × (read_at bits place width ≡ Ok v)
read_there bits place width h = by (read_at bits place width) refl
  where
    by : (r : Result ℕ ℕ) → read_at bits place width ≡ r → (v : ℕ) × (read_at bits place width ≡ Ok v)
    by (Ok v) e = (v, e)
    by (Err m) e = let few = ((missing_exactly bits place width m).0 e).0 in absurd (omega arith)

-- a single bit
pub bit_missing_one : (bits : List ℕ) (place : ℕ) → (bit_at bits place ≡ None) ↔ (read_at bits place 1 ≡ Err 1)
unfolding read_at read_on
bit_missing_one bits place = (λ e. rw (bit_missing bits place e), λ e. sym (bit_none bits place (none (drop place bits) e)))
  where
    none : (l : List ℕ) → read_on 0 1 l ≡ Err 1 → l ≡ []
    none [] e = refl
    none (b ∷ l) e = not_err e

-- an asker whose answer is done was given a value, since a refusal is not done
pub found_value : {A : Type 0} (found lacks : ℕ → Outcome A) (r : Result ℕ ℕ) (a : A) → ((m : ℕ) → lacks m ≡ done a → ⊥) → read_or found lacks r ≡ done a
    → (v : ℕ) × (r ≡ Ok v) × (found v ≡ done a)
found_value found lacks (Ok v) a h e = (v, refl, e)
found_value found lacks (Err m) a h e = absurd (h m e)
