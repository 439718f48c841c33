-- What renormalisation answers, and what stands behind an answer that is done.
use Rattle.std.specs.Prelude.{Option, Some, None}
use Prim.Native.Nat.{ℕ, ◌+◌, ◌-◌, ◌*◌, ◌/◌, ◌%◌, ◌^◌, ◌≤◌, ◌<◌}
use mathlib.Core.Path.{◌≡◌, refl, sym, subst, ◌∙◌}
use mathlib.Core.Bool.{Bool, true, false}
use native.Mathlib.Omega.{arith}
use borrow.Author.Tests.{le-leb, lt-leb, leb-true, leb-false}
use lib.Dec.{leb}
use Rattle.bits.specs.declared.Word.{Word}
use Rattle.bits.proofs.TestLaws.{by_test}
use Rattle.renorm.specs.Reader.{doublings_of, needed_of, shifted_of, left_of, after_word}
use Rattle.renorm.specs.declared.Registers.{Registers}

-- at most one of the bits is taken already
pub left_near : (width : ℕ) (b : Bool) → (left_of width b ≤ width) × (width ≤ left_of width b + 1)
left_near width true = (omega arith, omega arith)
left_near width false = (omega arith, omega arith)

pub short_at : (value left width range : ℕ) → left - doublings_of range < needed_of value (left - doublings_of range) → shifted_of value left width range ≡ None
unfolding shifted_of
short_at value left width range h = simp (lt-leb _ _ h)

-- the registers after k doublings and n bits more
abbrev pub registers : ℕ → ℕ → ℕ → ℕ → ℕ → ℕ → Registers
registers value left width range k n =
    record { rt = range * 2 ^ k % 256; vs = n; vt = value / 2 ^ (left - k - n) % 256; taken = width - (left - k - n) }

pub done_at : (value left width range k n : ℕ) → k ≡ doublings_of range → n ≡ needed_of value (left - k) → n ≤ left - k →
    shifted_of value left width range ≡ Some (registers value left width range k n)
unfolding shifted_of
done_at value left width range k n e f h =
    let few : needed_of value (left - doublings_of range) ≤ left - doublings_of range = subst (λ (j : ℕ). needed_of value (left - j) ≤ left - j) e (subst (λ (m : ℕ). m ≤ left - k) f h) in
    let g : n ≡ needed_of value (left - doublings_of range) = subst (λ (j : ℕ). n ≡ needed_of value (left - j)) e f in
    rw (e, g) (simp (le-leb _ _ few))

-- so many bits were at hand, and these are the registers
pub done_holds : (value left width range : ℕ) (z : Registers) → shifted_of value left width range ≡ Some z → let k = doublings_of range in let n = needed_of value (left - k) in
    (n ≤ left - k) × (registers value left width range k n ≡ z)
done_holds value left width range z e =
    let k = doublings_of range in
    let n = needed_of value (left - k) in
    by_test (leb n (left - k))
    (λ t.
    let h = leb-true n (left - k) t in
    let d : ◌≡◌ {A = Option Registers} (Some (registers value left width range k n)) (Some z) = sym (done_at value left width range k n refl refl h) ∙ e in
    (h, inside d))
    (λ f. none (sym (short_at value left width range (leb-false n (left - k) f)) ∙ e))
  where
    inside : {a b : Registers} → ◌≡◌ {A = Option Registers} (Some a) (Some b) → a ≡ b
    inside d = cc

    none : {P : Type 0} → ◌≡◌ {A = Option Registers} None (Some z) → P
    none d = let i : ◌≡◌ {A = ℕ} 0 1 = cc in absurd (omega arith)

-- the bits that were read
pub word_of : (w : Option Word) (head range : ℕ) (b : Bool) (z : Registers) → after_word w head b range ≡ Some z →
    (v : ℕ) × (width : ℕ) × (w ≡ Some (record { bits = v; width = width })) × (shifted_of (head * 2 ^ left_of width b + v) (left_of width b) width range ≡ Some z)
unfolding after_word
word_of (Some w) head range b z e = (w.bits, w.width, refl, e)
word_of None head range b z e = let i : ◌≡◌ {A = ℕ} 0 1 = cc in absurd (omega arith)
