-- The laws of bits read as whole bytes, of which those at either end are then cut off.
use Rattle.std.proofs.Common.{Ok}
use Prim.Native.Nat.{ℕ, ◌+◌, ◌-◌, ◌*◌, ◌/◌, ◌%◌, ◌^◌, ◌≤◌, ◌<◌}
use mathlib.Core.Path.{◌≡◌, sym, ap, ◌∙◌}
use mathlib.Core.List.{List, [], ◌∷◌, ◌++◌, append-nil}
use native.Mathlib.Omega.{arith}
use native.Mathlib.Nat.{mod-lt}
use native.Mathlib.Numerals.{add-one}
use lib.ListN.{length, get_or, take, drop, length-take, length-drop}
use lib.Pow.{pow_pos, pow-add}
use lib.Seq.{take-suc, take_at, take-take, drop_at, drop-drop}
use Rattle.bits.specs.Bits.{bits_in, bits_of, payload, read_at}
use Rattle.bits.proofs.BitLaws.{length_in, in_append, in_low, bits_append, bits_drop, bits_take}
use Rattle.bits.proofs.ReadLaws.{value_exactly}
use Rattle.bits.proofs.ListLaws.{drop_take}

-- one byte more
pub byte_more : (s : List ℕ) (i value x : ℕ) → i < length s → x ≡ get_or s i 0 → x < 256 → bits_of (take i s) ≡ bits_in (i * 8) value →
    bits_of (take (i + 1) s) ≡ bits_in ((i + 1) * 8) (value * 256 + x)
unfolding bits_of
byte_more s i value x k byte small e =
    let m : (i + 1) * 8 ≡ i * 8 + 8 = omega arith in
    let high : (value * 256 + x) / 256 ≡ value = omega arith in
    let low : (value * 256 + x) % 256 ≡ x = omega arith in
    let b : bits_in 8 (value * 256 + x) ≡ bits_in 8 x = sym (in_low 8 (value * 256 + x)) ∙ ap (bits_in 8) low in
    let t : take (i + 1) s ≡ take i s ++ (x ∷ []) = rw (add-one, take-suc s i 0 k, byte) in
    rw (t, bits_append (take i s) (x ∷ []), append-nil, e, m) (sym (in_append (i * 8) 8 (value * 256 + x) ∙ rw (high, b)))

-- so that five fit
pub byte_fits : (i value x : ℕ) → value < 2 ^ (i * 8) → x < 256 → value * 256 + x < 2 ^ ((i + 1) * 8)
byte_fits i value x v small = let m : (i + 1) * 8 ≡ i * 8 + 8 = omega arith in rw (m, pow-add 2 (i * 8) 8) (omega arith)

-- the bits of a part of the bytes
pub part_bits : (s : List ℕ) (from n value : ℕ) → from + n ≤ length s →
    bits_of (take n (drop from s)) ≡ bits_in (length (take n (drop from s)) * 8) value → take (n * 8) (drop (from * 8) (bits_of s)) ≡ bits_in (n * 8) value
part_bits s from n value h e =
    let l : length (take n (drop from s)) ≡ n = let d = length-drop from s in rw length-take (omega arith) in
    rw (← bits_drop from s, ← bits_take n (drop from s)) (rw l at e)

-- bits cut off at either end
pub cut_bits : (l : List ℕ) (skip width after value : ℕ) → take (skip + (width + after)) l ≡ bits_in (skip + (width + after)) value →
    take width (drop skip l) ≡ bits_in width (value / 2 ^ after % 2 ^ width)
cut_bits l skip width after value e =
    let m = width + after in
    let high = value / 2 ^ after in
    let d : take m (drop skip l) ≡ bits_in m value =
    sym (drop_take skip m l) ∙ ap (drop skip) (e ∙ in_append skip m value) ∙ drop_at (bits_in skip (value / 2 ^ m)) _ skip (length_in skip _) in
    sym (take-take width m (drop skip l) (omega arith)) ∙ ap (take width) (d ∙ in_append width after value)
    ∙ take_at (bits_in width high) _ width (length_in width high) ∙ sym (in_low width high)

-- bits within the count are the payload's
pub within_count : (s : List ℕ) (count place width : ℕ) → place + width ≤ count →
    take width (drop place (payload s count)) ≡ take width (drop place (bits_of s))
within_count s count place width h =
    let e : count ≡ place + (count - place) = omega arith in
    rw e (ap (take width) (drop_take place (count - place) (bits_of s)) ∙ take-take width (count - place) (drop place (bits_of s)) (omega arith))

-- the bytes from the one that holds the first bit to the one that holds the last, and the bits before and after cut off
pub bytes_read : (s : List ℕ) (count place last width value : ℕ) → last + 1 ≡ place + width → last < count →
    take ((last / 8 + 1 - place / 8) * 8) (drop (place / 8 * 8) (bits_of s)) ≡ bits_in ((last / 8 + 1 - place / 8) * 8) value →
    read_at (payload s count) place width ≡ Ok (value / 2 ^ (7 - last % 8) % 2 ^ width)
bytes_read s count place last width value ends inside e =
    let after = 7 - last % 8 in
    let q : place / 8 * 8 + place % 8 ≡ place = omega arith in
    let n : (last / 8 + 1 - place / 8) * 8 ≡ place % 8 + (width + after) = omega arith in
    let d : drop (place % 8) (drop (place / 8 * 8) (bits_of s)) ≡ drop place (bits_of s) = drop-drop (place % 8) (place / 8 * 8) (bits_of s) ∙ rw q in
    let bits = cut_bits (drop (place / 8 * 8) (bits_of s)) (place % 8) width after value (rw n at e) in
    (value_exactly s count place width _).1 (mod-lt _ (pow_pos width), within_count s count place width (omega arith) ∙ ap (take width) (sym d) ∙ bits)
