-- The laws of many bits at once: those from a place on as the last bits of a number.
use Rattle.std.specs.Prelude.{Option, Some, None, Result, Ok, Err}
use Prim.Native.Nat.{ℕ, ◌+◌, ◌-◌, ◌/◌, ◌%◌, ◌^◌, ◌≤◌, ◌<◌}
use mathlib.Core.Path.{◌≡◌, refl, sym, ap, ◌∙◌}
use mathlib.Core.List.{List, ◌∷◌}
use native.Mathlib.Omega.{arith}
use native.Mathlib.Nat.{div-one}
use borrow.Author.Tests.{le-leb, lt-leb}
use lib.Dec.{leb}
use lib.ListN.{length, get_or, take, drop, length-take, length-drop}
use lib.Seq.{drop-drop, get_or-take, get_or-drop}
use Rattle.bits.specs.Bits.{bits_in, payload, read_at}
use Rattle.bits.specs.Reader.{word_says, word_at}
use Rattle.bits.specs.declared.Word.{Word}
use Rattle.bits.proofs.ListLaws.{at_head}
use Rattle.bits.proofs.TestLaws.{by_test}
use Rattle.bits.proofs.BitLaws.{length_in, bit_in, in_low}
use Rattle.bits.proofs.ReadLaws.{value_exactly}
use Rattle.bits.proofs.ChunkLaws.{cut_bits}

-- the next m bits at a place are the last m of the number v
abbrev pub Ahead : List ℕ → ℕ → ℕ → ℕ → Type 0
Ahead bits place m v = take m (drop place bits) ≡ bits_in m v

-- of any number that ends alike
pub ahead_same : (bits : List ℕ) (place m v w : ℕ) → v % 2 ^ m ≡ w % 2 ^ m → Ahead bits place m v → Ahead bits place m w
ahead_same bits place m v w e a = a ∙ sym (in_low m v) ∙ ap (bits_in m) e ∙ in_low m w

-- and past k of them the others are
pub ahead_past : (bits : List ℕ) (place k m v : ℕ) → Ahead bits place (k + m) v → Ahead bits (place + k) m v
ahead_past bits place k m v a =
    let n : k + (m + 0) ≡ k + m = omega arith in
    let d : drop k (drop place bits) ≡ drop (place + k) bits = drop-drop k place bits in
    ap (take m) (sym d) ∙ cut_bits (drop place bits) k m 0 v (rw n a) ∙ in_low m (v / 1) ∙ ap (bits_in m) (div-one v)

ahead_length : (bits : List ℕ) (place m v i : ℕ) → Ahead bits place m v → i < m → place + i < length bits
ahead_length bits place m v i a h =
    let t = sym (length-take m (drop place bits)) ∙ ap length a ∙ length_in m v in
    let d = length-drop place bits in
    omega arith

-- each of them
pub ahead_bit : (bits : List ℕ) (place m v i : ℕ) → Ahead bits place m v → i < m →
    drop (place + i) bits ≡ (v / 2 ^ (m - 1 - i) % 2) ∷ drop (place + i + 1) bits
ahead_bit bits place m v i a h =
    let g : get_or bits (place + i) 0 ≡ v / 2 ^ (m - 1 - i) % 2 =
    sym (get_or-drop place bits i 0) ∙ sym (get_or-take m (drop place bits) i 0 h) ∙ ap (λ (l : List ℕ). get_or l i 0) a ∙ bit_in m v i h in
    rw (← g) (at_head bits (place + i) 0 (ahead_length bits place m v i a h))

-- ── what `read_word` answers ──

pub word_few : (bits : List ℕ) (place : ℕ) → length bits - place < 32 → word_at bits place ≡ None
unfolding word_at
word_few bits place h = simp (lt-leb 32 (length bits - place) h)

pub word_is : (bits : List ℕ) (place v : ℕ) → 32 ≤ length bits - place → read_at bits place (32 - place % 8) ≡ Ok v →
    word_at bits place ≡ Some (record { bits = v; width = 32 - place % 8 })
unfolding word_at
word_is bits place v h e = simp (le-leb 32 (length bits - place) h, e)

some_same : {A : Type 0} {a b : A} → ◌≡◌ {A = Option A} (Some a) (Some b) → a ≡ b
some_same e = cc

-- where it answers bits, they are ahead
pub word_ahead : (s : List ℕ) (count place v w : ℕ) → word_at (payload s count) place ≡ Some (record { bits = v; width = w }) →
    (w ≡ 32 - place % 8) × (v < 2 ^ w) × Ahead (payload s count) place w v
unfolding word_at
word_ahead s count place v w e =
    by_test (leb 32 (length (payload s count) - place))
    (λ t. by (read_at (payload s count) place (32 - place % 8)) refl (rw t at e))
    (λ f. none (rw f at e))
  where
    none : {P : Type 0} → ◌≡◌ {A = Option Word} None (Some (record { bits = v; width = w })) → P
    none d = let z : ◌≡◌ {A = ℕ} 0 1 = cc in absurd (omega arith)

    by : (r : Result ℕ ℕ) → read_at (payload s count) place (32 - place % 8) ≡ r → word_says (32 - place % 8) r ≡ Some (record { bits = v; width = w }) →
        (w ≡ 32 - place % 8) × (v < 2 ^ w) × Ahead (payload s count) place w v
    by (Ok n) r d =
        let e : ◌≡◌ {A = Word} (record { bits = n; width = 32 - place % 8 }) (record { bits = v; width = w }) = some_same d in
        let same : n ≡ v = ap (λ (x : Word). x.bits) e in
        let wide : 32 - place % 8 ≡ w = ap (λ (x : Word). x.width) e in
        let x = (value_exactly s count place (32 - place % 8) n).0 r in
        rw (← wide, ← same) (refl, x.0, x.1)
    by (Err m) r d = none d
