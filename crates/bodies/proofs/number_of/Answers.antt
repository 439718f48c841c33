-- The first byte's upper half is written by its first four bits.
use Rattle.std.proofs.Common.{Ok, Err, None, Some}
use Rattle.std.specs.List.{slice_get}
use Prim.Native.Nat.{ℕ, ◌+◌, ◌*◌, ◌/◌, ◌%◌, ◌^◌, ◌<◌}
use mathlib.Core.Path.{◌≡◌, sym, refl, ap, ◌∙◌}
use mathlib.Core.List.{List, [], ◌∷◌}
use native.Mathlib.Omega.{arith}
use lib.ListN.{get_or}
use Rattle.bits.specs.Bits.{bits_in, bits_of, read_on, read_at}
use Rattle.layout.specs.Reader.{read_value}
use Rattle.bodies.specs.Reader.{number_of}
use Rattle.bodies.proofs.number_of.Goals as goal

-- four bits, one after another
doubled : (a b c d p q r s : ℕ) → a ≡ p → p * 2 + b ≡ q → q * 2 + c ≡ r → r * 2 + d ≡ s → (((0 * 2 + a) * 2 + b) * 2 + c) * 2 + d ≡ s
doubled a b c d p q r s e f g h = omega arith

upper_half : (body : List ℕ) (x : ℕ) → Some x ≡ slice_get body 0 → get_or body 0 0 < 256 → number_of body ≡ Ok (x / 16)
unfolding read_at read_on bits_of bits_in
upper_half [] x e small = let z : ◌≡◌ {A = ℕ} 0 1 = cc in absurd (omega arith)
upper_half (y ∷ body) x e small =
    let same : y ≡ x = cc in
    let q7 : y / 2 ^ 7 % 2 ≡ y / 2 ^ 7 = omega (arith, small) in
    let q : y / 16 ≡ x / 16 = ap (λ (n : ℕ). n / 16) same in
    ap Ok (doubled _ _ _ _ (y / 2 ^ 7) (y / 2 ^ 6) (y / 2 ^ 5) (y / 16) q7 (let m : y / 2 ^ 7 * 2 + y / 2 ^ 6 % 2 ≡ y / 2 ^ 6 = omega arith in m) (let m : y / 2 ^ 6 * 2 + y / 2 ^ 5 % 2 ≡ y / 2 ^ 5 = omega arith in m) (let m : y / 2 ^ 5 * 2 + y / 2 ^ 4 % 2 ≡ y / 16 = omega arith in m) ∙ q)

none_there : (body : List ℕ) → None ≡ slice_get body 0 → number_of body ≡ Err 4
unfolding read_at read_on bits_of
none_there [] e = refl
none_there (x ∷ body) e = let z : ◌≡◌ {A = ℕ} 0 1 = cc in absurd (omega arith)

pub returns-in-Some : goal.returns-in-Some
returns-in-Some c = rw c.from.ensures (ap read_value (sym (upper_half c.args.body.now c.in-Some.byte.now c.in-Some.ensures.value (omega (arith, c.type_inv.body 0)))))

pub returns-in-None : goal.returns-in-None
returns-in-None c = ap read_value (sym (none_there c.args.body.now c.in-None.ensures.value))
