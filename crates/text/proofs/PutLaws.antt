-- Texts put into lent bytes: a text of two parts is put part after part.
use Prim.Native.Nat.{ℕ, suc, ◌+◌, ◌≤◌, ◌<◌, min}
use mathlib.Core.Path.{◌≡◌, refl, sym, ap, ◌∙◌}
use mathlib.Core.Bool.{Bool, true, false}
use mathlib.Core.List.{List, [], ◌∷◌, ◌++◌, append_assoc, append-nil}
use native.Mathlib.Nat.{add-zero}
use native.Mathlib.Numerals.{add-one}
use native.Mathlib.Omega.{arith}
use borrow.Author.Tests.{ltb-true, ltb-false}
use lib.Dec.{ltb}
use lib.ListN.{length, get_or, take, drop, set, length-set, length-append, take-append-drop}
use lib.Seq.{sets, length-sets, set_out, take_all, take-suc, take-length, take-append_seam, take-suc-set, drop-set-lt, append_snoc}
use Rattle.text.specs.Text.{written, after, Put}

pub by_order : {P : Type 0} (a b : ℕ) → (a < b → P) → (b ≤ a → P) → P
by_order {P} a b f g = go (ltb a b) refl
  where
    go : (t : Bool) → ltb a b ≡ t → P
    go true e = f (ltb-true a b e)
    go false e = g (ltb-false a b e)

-- ── a text is its bytes, set one after the other ──

nothing : (at : ℕ) (out : List ℕ) → written at [] out ≡ out
unfolding written
nothing at out = simp (append-nil, add-zero, take-append-drop, take-length)

within : (b : ℕ) (s : List ℕ) (at : ℕ) (out : List ℕ) → at < length out → written at (b ∷ s) out ≡ written (suc at) s (set out at b)
unfolding written
within b s at out h =
    let d : drop (suc at + length s) (set out at b) ≡ drop (suc at + length s) out = drop-set-lt (suc at + length s) out at b (omega arith) in
    let e : at + suc (length s) ≡ suc at + length s = omega arith in
    rw (e, length-set, take-suc-set out at b h, d, append_snoc) refl

beyond : (s : List ℕ) (at : ℕ) (out : List ℕ) → length out ≤ at → written at s out ≡ out
unfolding written
beyond s at out h = rw (take_all at out h, append_assoc, take-append_seam) refl

sets_beyond : (s : List ℕ) (at : ℕ) (out : List ℕ) → length out ≤ at → sets out at s ≡ out
sets_beyond [] at out h = refl
sets_beyond (b ∷ s) at out h = rw (set_out out at b h) (sets_beyond s (suc at) out (omega arith))

sets_append : (a b : List ℕ) (at : ℕ) (out : List ℕ) → sets out at (a ++ b) ≡ sets (sets out at a) (at + length a) b
sets_append [] b at out = rw add-zero refl
sets_append (x ∷ a) b at out =
    let e : at + suc (length a) ≡ suc at + length a = omega arith in
    rw e (sets_append a b (suc at) (set out at x))

pub written_sets : (s : List ℕ) (at : ℕ) (out : List ℕ) → written at s out ≡ sets out at s
written_sets [] at out = nothing at out
written_sets (b ∷ s) at out =
    by_order at (length out)
    (λ h. within b s at out h ∙ written_sets s (suc at) (set out at b))
    (λ h. beyond (b ∷ s) at out h ∙ sym (sets_beyond (b ∷ s) at out h))

pub length_written : (at : ℕ) (s out : List ℕ) → length (written at s out) ≡ length out
length_written at s out = ap length (written_sets s at out) ∙ length-sets out at s

-- the second part stands after the first, or past the end
written_append : (at : ℕ) (a b out : List ℕ) → written at (a ++ b) out ≡ written (after at a out) b (written at a out)
written_append at a b out =
    let l = length_written at a out in
    rw (written_sets (a ++ b) at out, sets_append a b at out, ← written_sets a at out)
    (by_order (length out) (at + length a)
    (λ h. sets_beyond b (at + length a) (written at a out) (omega arith) ∙ sym (beyond b (after at a out) (written at a out) (omega arith)))
    (λ h.
    let e : at + length a ≡ after at a out = omega arith in
    sym (written_sets b (at + length a) (written at a out)) ∙ ap (λ (k : ℕ). written k b (written at a out)) e))

-- ── what is put ──

pub put_none : {at next : ℕ} {out : List ℕ} → next ≡ min at (length out) → Put at [] out next out
put_none {at} {next} {out} e = record { place = e ∙ ap (λ (k : ℕ). min k (length out)) (sym (add-zero at)); bytes = sym (nothing at out) }

pub put_one : {at b : ℕ} {out : List ℕ} → at < length out → Put at (b ∷ []) out (at + 1) (set out at b)
put_one {at} {b} {out} h = record { place = omega arith; bytes = sym (written_sets (b ∷ []) at out) }

pub put_past : {at b : ℕ} {out : List ℕ} → length out ≤ at → Put at (b ∷ []) out (length out) out
put_past {at} {b} {out} h = record { place = omega arith; bytes = sym (beyond (b ∷ []) at out h) }

pub put_then : {at next last : ℕ} {a b out between done : List ℕ} → Put at a out next between → Put next b between last done → Put at (a ++ b) out last done
put_then {at} {next} {last} {a} {b} {out} {between} {done} p q =
    let l : length between ≡ length out = ap length p.bytes ∙ length_written at a out in
    let n = length-append a b in
    let e = p.place in
    let f = q.place in
    record { place = omega arith; bytes = cc (written_append at a b out, p.place, p.bytes, q.bytes) }

-- another way to say the text
pub put_same : {at next : ℕ} {s t out done : List ℕ} → s ≡ t → Put at s out next done → Put at t out next done
put_same e p = rw e at p

-- ── a loop over a text ──

pub put_more : {at next last : ℕ} {out between done : List ℕ} (s : List ℕ) (k : ℕ) → k < length s →
    Put at (take k s) out next between → Put next (get_or s k 0 ∷ []) between last done → Put at (take (k + 1) s) out last done
put_more s k h p q = rw (add-one, take-suc s k 0 h) (put_then p q)

pub put_all : {at next : ℕ} {out done : List ℕ} (s : List ℕ) (k : ℕ) → length s ≤ k → Put at (take k s) out next done → Put at s out next done
put_all s k h p = rw (take_all k s h) at p
