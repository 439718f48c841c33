-- The laws of Exp-Golomb reading: counting zeros by index, and the bounds of a number.
use Rattle.std.specs.Prelude.{Result, Ok, Err}
use Rattle.std.specs.Result.{IsErrAnd}
use Rattle.payload.specs.Golomb.{golomb_says, golomb_refused}
use Prim.Native.Nat.{ℕ, zero, suc, ◌+◌, ◌-◌, ◌*◌, ◌^◌, ◌≤◌, ◌<◌}
use mathlib.Core.Path.{◌≡◌, refl, sym, ap, ◌∙◌}
use mathlib.Core.List.{List, [], ◌∷◌}
use mathlib.Core.Bool.{cond}
use native.Mathlib.Omega.{arith}
use lib.Dec.{eqb, ltb}
use lib.ListN.{length, drop, length-drop}
use lib.Pow.{pow_mono, pow_pos}
use borrow.Author.Tests.{eq-eqb, ne_eqb, eqb-true, eqb-false, lt-ltb, le-ltb}
use Rattle.answers.specs.Answers.{Outcome, done, refused, refuse_if, TOO_LONG}
use Rattle.answers.specs.Limits.{longest_payload}
use Rattle.bits.specs.Bits.{payload, read_at}
use Rattle.bits.proofs.TestLaws.{by_test}
use Rattle.answers.proofs.OutcomeLaws.{not_done}
use Rattle.answers.proofs.ResultLaws.{not_ok, ok_same}
use Rattle.bits.proofs.BitLaws.{length_payload}
use Rattle.bits.proofs.Main.{read_exactly}
use Rattle.bits.proofs.ReadLaws.{found_value}
use Rattle.payload.specs.declared.Numbered.{Numbered}
use Rattle.payload.specs.Reader.{zeros_on, golomb_after, golomb}
use Rattle.payload.specs.declared.GolombError.{GolombError}
use Rattle.payload.specs.declared.GolombError.TheVariants.{Value, TooLong, PayloadOut}

-- ── a refusal that is passed on ──

pub refused_as : {A : Type 0} (r : Result (Numbered A) GolombError) (why : GolombError) → IsErrAnd r (λ other. other ≡ why) → golomb_says r ≡ golomb_refused why
refused_as (Ok n) why h = absurd h
refused_as (Err other) why h = ap golomb_refused h

-- ── the loop over zeros ──

-- what zeros are counted as, and why none are
abbrev pub Zeros : Type 0
Zeros = Result (Numbered ℕ) GolombError

abbrev pub before : ℕ → ℕ → Zeros
before z next = Ok (record { number = z; next = next })

-- the zeros from place `at` of l on, after z of them; 32 are too many
abbrev pub zeros_from : ℕ → ℕ → List ℕ → Zeros
zeros_from z at l = cond (eqb z 32) (Err Value) (zeros_on z at (drop at l))

on_zero : (z at b : ℕ) (t : List ℕ) → b ≡ 0 → zeros_on z at (b ∷ t) ≡ cond (eqb z 31) (Err Value) (zeros_on (z + 1) (at + 1) t)
unfolding zeros_on
on_zero z at zero t e = refl
on_zero z at (suc b) t e = absurd (omega arith)

on_one : (z at b : ℕ) (t : List ℕ) → (b ≡ 0 → ⊥) → zeros_on z at (b ∷ t) ≡ before z (at + 1)
unfolding zeros_on
on_one z at zero t h = absurd (h refl)
on_one z at (suc b) t h = refl

module _ (z at : ℕ) (l : List ℕ) (h : z < 32) where
  not_yet : zeros_from z at l ≡ zeros_on z at (drop at l)
  not_yet = simp (ne_eqb z 32 (λ e. omega arith))

  pub zeros_more : (b : ℕ) → drop at l ≡ b ∷ drop (at + 1) l → b ≡ 0 → zeros_from z at l ≡ zeros_from (z + 1) (at + 1) l
  zeros_more b d e =
      let last : eqb z 31 ≡ eqb (z + 1) 32 =
      by_test (eqb z 31) (λ y. y ∙ sym (eq-eqb (z + 1) 32 (let k = eqb-true z 31 y in omega arith))) (λ n. n ∙ sym (ne_eqb (z + 1) 32 (λ k. eqb-false z 31 n (omega arith)))) in
      not_yet ∙ ap (zeros_on z at) d ∙ on_zero z at b (drop (at + 1) l) e ∙ rw last

  pub zeros_one : (b : ℕ) (t : List ℕ) → drop at l ≡ b ∷ t → (b ≡ 0 → ⊥) → zeros_from z at l ≡ before z (at + 1)
  zeros_one b t d n = not_yet ∙ ap (zeros_on z at) d ∙ on_one z at b t n

  pub zeros_out : drop at l ≡ [] → zeros_from z at l ≡ Err (PayloadOut 1)
  unfolding zeros_on
  zeros_out d = not_yet ∙ rw d

-- ── bounds ──

-- a 1 after at most 31 zeros stands among the bits
pub before_bounds : (z at : ℕ) (t : List ℕ) (y : Numbered ℕ) → z ≤ 31 → zeros_on z at t ≡ Ok y → (y.number ≤ 31) × (y.next ≤ at + length t) × (0 < length t)
unfolding zeros_on
before_bounds z at [] y h e = not_ok e
before_bounds z at (zero ∷ t) y h e =
    let r = before_bounds (z + 1) (at + 1) t y in
    by_test (eqb z 31)
    (λ q. let m : ◌≡◌ {A = Zeros} (Err Value) (Ok y) = rw q at e in not_ok m)
    (λ q. let m : zeros_on (z + 1) (at + 1) t ≡ Ok y = rw q at e in let k = eqb-false z 31 q in let b = r (omega arith) m in (b.0, omega (arith, b.1), omega arith))
before_bounds z at (suc b ∷ t) y h e = rw (← ok_same e) (omega arith, omega arith, omega arith)

-- ── the number ──

value_of : Outcome (Numbered ℕ) → ℕ
value_of (done m) = m.number
value_of (refused n carried) = 0

number_of_lem : {m n : Numbered ℕ} → done m ≡ done n → m.number ≡ n.number
unfolding value_of
number_of_lem e = ap value_of e

pub golomb_long : (bytes : List ℕ) (count place : ℕ) → longest_payload < length bytes → refused TOO_LONG [] ≡ golomb bytes count place
unfolding golomb
golomb_long bytes count place h =
    ap (λ t. refuse_if t TOO_LONG (golomb_after (payload bytes count) (zeros_on 0 place (drop place (payload bytes count))))) (sym (lt-ltb longest_payload (length bytes) h))

module _ (bytes : List ℕ) (count place : ℕ) where
  pub golomb_after_lem : (zs : Zeros) → length bytes ≤ longest_payload → zs ≡ zeros_on 0 place (drop place (payload bytes count)) →
      golomb_after (payload bytes count) zs ≡ golomb bytes count place
  unfolding golomb
  golomb_after_lem zs h e = simp (le-ltb longest_payload (length bytes) h, e)

  -- the zeros before a 1 that is there, and the place after it
  pub zeros_bounds : (zs : Numbered ℕ) → zeros_on 0 place (drop place (payload bytes count)) ≡ Ok zs → (zs.number ≤ 31) × (zs.next ≤ length bytes * 8)
  zeros_bounds zs e =
      let b = before_bounds 0 place (drop place (payload bytes count)) zs (omega arith) e in
      let d = length-drop place (payload bytes count) in
      let l = length_payload bytes count in
      (b.0, omega (arith, b.1, b.2))

  -- the value of z bits has z bits
  pub suffix_lt : (z next b : ℕ) → read_at (payload bytes count) next z ≡ Ok b → b < 2 ^ z
  suffix_lt z next b e = ((read_exactly bytes count next z b).0 e).0

  pub number_lt : (z next b : ℕ) → z ≤ 31 → read_at (payload bytes count) next z ≡ Ok b → 2 ^ z - 1 + b < 4294967295
  number_lt z next b h e = let s = suffix_lt z next b e in omega (arith, pow_mono {i = z} {j = 31} h, pow_pos z)

  after_bound : (zs : Zeros) (m : Numbered ℕ) → zeros_on 0 place (drop place (payload bytes count)) ≡ zs → golomb_after (payload bytes count) zs ≡ done m → m.number < 4294967295
  after_bound (Ok zs) m e q =
      let z = zs.number in
      let (b, is, f) = found_value _ _ (read_at (payload bytes count) zs.next z) m (λ n e. not_done e) q in
      let n : 2 ^ z - 1 + b ≡ m.number = number_of_lem f in
      let k = number_lt z zs.next b (zeros_bounds zs e).0 is in
      omega arith
  after_bound (Err Value) m e q = not_done q
  after_bound (Err TooLong) m e q = not_done q
  after_bound (Err (PayloadOut n)) m e q = not_done q

  -- a number is below 2^32 - 1, so it and its signed form fit 32 bits
  pub golomb_bound : (m : Numbered ℕ) → golomb bytes count place ≡ done m → m.number < 4294967295
  unfolding golomb
  golomb_bound m e =
      by_test (ltb longest_payload (length bytes))
      (λ t. let q : refused TOO_LONG [] ≡ done m = rw t at e in not_done q)
      (λ f. after_bound (zeros_on 0 place (drop place (payload bytes count))) m refl (rw f at e))
