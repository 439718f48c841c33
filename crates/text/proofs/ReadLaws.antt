-- What is spelt is read back.
use Prim.Native.Nat.{ℕ, zero, suc, ◌+◌, ◌-◌, ◌*◌, ◌/◌, ◌%◌, ◌^◌, ◌≤◌, ◌<◌}
use mathlib.Core.Path.{◌≡◌, refl, ◌∙◌}
use mathlib.Core.List.{List, [], ◌∷◌, ◌++◌, append_assoc, append-nil}
use mathlib.Core.Option.{some}
use native.Mathlib.Nat.{pow-suc}
use native.Mathlib.Numerals.{add-one}
use native.Mathlib.Omega.{arith}
use borrow.Author.Tests.{lt-ltb, le-ltb, le-leb}
use lib.ListN.{length, take, drop, length-append}
use lib.Seq.{sets-eq}
use Rattle.text.specs.Text.{written, digit, digits, decimal, hex_digit, number_after, hex_value}
use Rattle.text.proofs.PutLaws.{by_order, written_sets}
use Rattle.text.proofs.SpellingLaws.{digits_one, digits_more}

-- ── decimal ──

reads_digit : (n k m : ℕ) (text : List ℕ) → k < 10 → n * 10 + k ≡ m → number_after n (digit k ∷ text) ≡ number_after m text
unfolding number_after
reads_digit n k m text h s =
    let e : 48 + k - 48 ≡ k = omega arith in
    rw (le-leb 48 (48 + k) (omega arith), le-leb (48 + k) 57 (omega arith), e, s) refl

reads : (most n : ℕ) (text : List ℕ) → n < 10 ^ suc most → number_after 0 (digits (suc most) n ++ text) ≡ number_after n text
reads zero n text h = rw (digits_one zero n (omega arith)) (reads_digit 0 n n text (omega arith) (omega arith))
reads (suc most) n text h =
    let p = pow-suc 10 (suc most) in
    by_order n 10
    (λ l. rw (digits_one (suc most) n l) (reads_digit 0 n n text l (omega arith)))
    (λ l.
    rw (digits_more (suc most) n l, append_assoc)
    (reads most (n / 10) (digit (n % 10) ∷ text) (omega arith)
    ∙ reads_digit (n / 10) (n % 10) n text (omega arith) (omega arith)))

pub decimal_reads : (n : ℕ) → n < 2 ^ 64 → number_after 0 (decimal n) ≡ some n
unfolding number_after
decimal_reads n h = rw append-nil at (reads 19 n [] (omega arith))

shortest : (most n : ℕ) → 0 < n → 10 ^ length (digits most n) ≤ n * 10
unfolding digits
shortest zero n h = omega arith
shortest (suc most) n h =
    by_order n 10
    (λ l. rw (digits_one most n l) (omega arith))
    (λ l.
    let r = shortest most (n / 10) (omega arith) in
    let p = pow-suc 10 (length (digits most (n / 10))) in
    rw (digits_more most n l, length-append, add-one) (omega arith))

pub decimal_shortest : (n : ℕ) → 0 < n → 10 ^ length (decimal n) ≤ n * 10
decimal_shortest n h = shortest 20 n h

-- ── hexadecimal ──

digit_value : (n : ℕ) → n < 16 → hex_value (hex_digit n) ≡ n
digit_value n h =
    by_order n 10
    (λ l. rw (lt-ltb n 10 l, lt-ltb (48 + n) 97 (omega arith)) (omega arith))
    (λ l. rw (le-ltb n 10 l, le-ltb (87 + n) 97 (omega arith)) (omega arith))

pub hex_reads : (b : ℕ) → b < 256 → hex_value (hex_digit (b / 16)) * 16 + hex_value (hex_digit (b % 16)) ≡ b
hex_reads b h = rw (digit_value (b / 16) (omega arith), digit_value (b % 16) (omega arith)) (omega arith)

-- ── texts that fit ──

pub written_within : (at : ℕ) (text out : List ℕ) → at + length text ≤ length out → written at text out ≡ take at out ++ text ++ drop (at + length text) out
written_within at text out h = written_sets text at out ∙ sets-eq text out at h
