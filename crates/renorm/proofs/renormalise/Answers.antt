-- The bits follow the head as one number.
use Rattle.std.specs.Prelude.{Option, Some, None}
use Prim.Native.Nat.{ℕ, ◌+◌, ◌-◌, ◌*◌, ◌%◌, ◌^◌, ◌≤◌, ◌<◌}
use mathlib.Core.Path.{◌≡◌, refl, sym, ap, ◌∙◌}
use mathlib.Core.Bool.{Bool}
use native.Mathlib.Omega.{arith}
use native.Mathlib.Nat.{mul-le-mul_right}
use lib.Pow.{pow_mono, shl_exact}
use Rattle.bits.specs.Bits.{payload}
use Rattle.bits.specs.Reader.{word_at}
use Rattle.bits.specs.declared.Word.{Word}
use Rattle.bits.proofs.WordLaws.{word_ahead}
use Rattle.renorm.specs.Reader.{left_of, shifted_of, after_word}
use Rattle.renorm.specs.declared.Registers.{Registers}
use Rattle.renorm.proofs.ShiftedLaws.{left_near}
use Rattle.renorm.proofs.renormalise.Goals as goal
use Rattle.renorm.proofs.renormalise.Goals.{In_ok-word}

-- nothing is shifted out, and the bits fit after it
shifted_head : (head left : ℕ) → head < 65536 → left ≤ 32 → head * 2 ^ left % 18446744073709551616 ≡ head * 2 ^ left
shifted_head head left h i = shl_exact {a = head} 16 left 64 h (omega arith)

small_head : (head left : ℕ) → head < 65536 → left ≤ 32 → head * 2 ^ left ≤ 281474976710656
small_head head left h i = let m = mul-le-mul_right {m = head} {n = 65536} (2 ^ left) (omega arith) in omega (arith, pow_mono {i = left} {j = 32} i)

-- the bits that were read
module _ (k : In_ok-word) where
  abbrev width : ℕ
  width = k.in_ok-word.word.width

  read : word_at (payload k.args.bits.now.bytes.now k.args.bits.now.count) k.args.place ≡ Some k.in_ok-word.word
  read = sym k.word.ensures ∙ k.in_ok-word.was

  wide : width ≡ 32 - k.args.place % 8
  wide = (word_ahead k.args.bits.now.bytes.now k.args.bits.now.count k.args.place _ _ read).0

-- how many of them are left
left_bounds : (k : In_ok-word) (left : ℕ) → left ≡ left_of (width k) k.args.borrows → (24 ≤ left) × (left ≤ width k) × (width k ≤ 32)
left_bounds k left e =
    let w = wide k in
    let b = left_near (width k) k.args.borrows in
    (omega arith, omega arith, omega arith)

pub left_of-left-requires : goal.left_of-left-requires
left_of-left-requires c = let w = wide c in omega arith

pub overflow_shl-value : goal.overflow_shl-value
overflow_shl-value c = let b = left_bounds (goal.at.overflow_shl-value c).In_ok-word c.left_of-left.result c.left_of-left.ensures in omega arith

pub overflow_add-value : goal.overflow_add-value
overflow_add-value c =
    let b = left_bounds (goal.at.overflow_add-value c).In_ok-word c.left_of-left.result c.left_of-left.ensures in
    let h = c.from.result in
    let same = c.from.ensures in
    let word = c.from-2.ensures in
    let s = shifted_head h c.left_of-left.result (omega arith) (omega arith) in
    let t = small_head h c.left_of-left.result (omega arith) (omega arith) in
    omega arith

pub shifted-requires : goal.shifted-requires
shifted-requires c = left_bounds (goal.at.shifted-requires c).In_ok-word c.left_of-left.result c.left_of-left.ensures

-- of that many bits
after_bits : (v : Word) (left head range : ℕ) (b : Bool) (w : Option Word) → w ≡ Some v → left ≡ left_of v.width b → shifted_of (head * 2 ^ left + v.bits) left v.width range ≡ after_word w head b range
unfolding after_word
after_bits v left head range b w e f = rw (e, f) refl

after_few : (head range : ℕ) (b : Bool) (w : Option Word) → w ≡ None → ◌≡◌ {A = Option Registers} None (after_word w head b range)
unfolding after_word
after_few head range b w e = rw e refl

pub returns : goal.returns
returns c =
    let a = c.args in
    let b = left_bounds (goal.at.returns c).In_ok-word c.left_of-left.result c.left_of-left.ensures in
    let s = ap (λ (n : ℕ). n * 2 ^ c.left_of-left.result % 18446744073709551616) c.from.ensures ∙ shifted_head a.head c.left_of-left.result (omega arith) (omega arith) in
    c.shifted.ensures
    ∙ rw (s, c.from-2.ensures) refl
    ∙ after_bits c.in_ok-word.word c.left_of-left.result a.head a.range a.borrows _ (read (goal.at.returns c).In_ok-word) c.left_of-left.ensures

pub returns-in_err-word : goal.returns-in_err-word
returns-in_err-word c =
    let a = c.args in
    c.from_residual.ensures ∙ after_few a.head a.range a.borrows _ (sym c.word.ensures ∙ c.in_err-word.was)
