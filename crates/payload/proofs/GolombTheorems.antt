-- How the bits from a place on begin decides the answer of Exp-Golomb reading, and they begin in one of three ways.
use Prim.Native.Nat.{ℕ, zero, suc, ◌+◌, ◌-◌, ◌^◌, ◌≤◌, ◌<◌}
use mathlib.Core.Path.{◌≡◌, refl, sym, ap, ◌∙◌, subst}
use mathlib.Core.Logic.{◌⊎◌, inl, inr, ◌↔◌}
use mathlib.Core.List.{List, [], ◌∷◌, ◌++◌, append-nil, append_assoc}
use native.Mathlib.Omega.{arith}
use native.Mathlib.Numerals.{add-one}
use borrow.Author.Tests.{ne_eqb, leb-true, leb-false, ltb-true, ltb-false}
use lib.Dec.{leb, ltb}
use lib.ListN.{length, take, drop, replicate, replicate-append-replicate, take-append-drop, length-drop}
use lib.Seq.{drop-drop, take-append_seam}
use Rattle.answers.specs.Answers.{Outcome, done, refused, map_done, VALUE, TOO_LONG}
use Rattle.answers.specs.Limits.{longest_payload}
use Rattle.answers.specs.Missing.{payload_out, SaysMissing, says_done, says_none, says_out}
use Rattle.bits.specs.Bits.{bits_in, payload}
use Rattle.bits.proofs.ListLaws.{all_drop}
use Rattle.bits.proofs.TestLaws.{by_test}
use Rattle.answers.proofs.OutcomeLaws.{not_done, done_one, other_number, out_same, says_mapped}
use Rattle.bits.proofs.BitLaws.{Binary, all_payload, length_in, leading}
use Rattle.bits.proofs.Main.{read_exactly, missing_exactly}
use Rattle.bits.proofs.ReadLaws.{read_there}
use Rattle.bits.proofs.LimitLaws.{of_bits, long_exactly, says_whole}
use Rattle.payload.specs.declared.Numbered.{Numbered}
use Rattle.payload.specs.Golomb.{with_sign, Coded, TooManyZeros, EndsFirst, before_one, after_one}
use Rattle.payload.specs.Reader.{zeros_on, number_of, golomb_after, golomb, signed_golomb}
use Rattle.payload.specs.declared.GolombError.TheVariants.{Value, PayloadOut}
use Rattle.std.specs.Prelude.{Ok, Err}
use Rattle.payload.proofs.GolombLaws.{golomb_long, golomb_after_lem}

-- ── zeros ──

-- n zeros more, of which the last is not the 32nd
zeros_skip : (n z at : ℕ) (l : List ℕ) → z + n ≤ 31 → zeros_on z at (replicate n 0 ++ l) ≡ zeros_on (z + n) (at + n) l
unfolding zeros_on
zeros_skip zero z at l h =
    let p : z ≡ z + 0 = omega arith in
    let q : at ≡ at + 0 = omega arith in
    λ k. zeros_on (p k) (q k) l
zeros_skip (suc n) z at l h =
    let p : z + 1 + n ≡ z + suc n = omega arith in
    let q : at + 1 + n ≡ at + suc n = omega arith in
    rw (ne_eqb z 31 (λ e. omega arith)) (zeros_skip n (z + 1) (at + 1) l (omega arith) ∙ (λ k. zeros_on (p k) (q k) l))

-- then a 1, or no bit
zeros_before : (z at : ℕ) (l : List ℕ) → z ≤ 31 → zeros_on 0 at (replicate z 0 ++ (1 ∷ l)) ≡ Ok (record { number = z; next = at + z + 1 })
unfolding zeros_on
zeros_before z at l h =
    let p : 0 + z ≡ z = omega arith in
    zeros_skip z 0 at (1 ∷ l) (omega arith) ∙ (λ k. Ok (record { number = p k; next = at + z + 1 }))

zeros_missing : (z at : ℕ) → z ≤ 31 → zeros_on 0 at (replicate z 0 ++ []) ≡ Err (PayloadOut 1)
unfolding zeros_on
zeros_missing z at h = zeros_skip z 0 at [] (omega arith)

zeros_many : (at : ℕ) (l : List ℕ) → zeros_on 0 at (replicate 32 0 ++ l) ≡ Err Value
unfolding zeros_on
zeros_many at l = refl

-- what is after the 1
rest_after : (z : ℕ) (l : List ℕ) → drop (z + 1) (replicate z 0 ++ (1 ∷ l)) ≡ l
rest_after zero l = refl
rest_after (suc z) l = rw add-one (rw add-one at (rest_after z l))

thirty_two : (n : ℕ) → 31 < n → replicate {A = ℕ} n 0 ≡ replicate 32 0 ++ replicate (n - 32) 0
thirty_two n h =
    let p : n ≡ 32 + (n - 32) = omega arith in
    ap (λ (k : ℕ). replicate {A = ℕ} k 0) p ∙ sym (replicate-append-replicate 32 (n - 32) 0)

-- ── the answer, by how the bits begin ──

module _ (bytes : List ℕ) (count place : ℕ) where
  abbrev bits : List ℕ
  bits = payload bytes count

  abbrev answer : Outcome (Numbered ℕ)
  answer = golomb_after bits (zeros_on 0 place (drop place bits))

  after_code : (z : ℕ) (l : List ℕ) → drop place bits ≡ replicate z 0 ++ (1 ∷ l) → drop (place + z + 1) bits ≡ l
  after_code z l e =
      let p : place + z + 1 ≡ place + (z + 1) = omega arith in
      ap (λ (k : ℕ). drop k bits) p ∙ sym (drop-drop (z + 1) place bits) ∙ ap (drop (z + 1)) e ∙ rest_after z l

  coded_answers : (m : Numbered ℕ) → Coded bits place m → answer ≡ done m
  coded_answers m c =
      let z = c.z in
      let b = c.b in
      let d = after_code z (bits_in z b ++ c.rest) c.there in
      let t = ap (take z) d ∙ ap (λ (k : ℕ). take k (bits_in z b ++ c.rest)) (sym (length_in z b)) ∙ take-append_seam (bits_in z b) c.rest in
      let r = (read_exactly bytes count (place + z + 1) z b).1 (c.small, t) in
      ap (λ t. golomb_after bits (zeros_on 0 place t)) c.there
      ∙ ap (golomb_after bits) (zeros_before z place (bits_in z b ++ c.rest) c.few)
      ∙ ap (number_of z (place + z + 1)) r
      ∙ sym (ap done c.is)

  many_answers : TooManyZeros bits place → answer ≡ refused VALUE []
  many_answers c = ap (λ t. golomb_after bits (zeros_on 0 place t)) c.there ∙ ap (golomb_after bits) (zeros_many place c.rest)

  ends_answers : {m : ℕ} → EndsFirst bits place m → answer ≡ payload_out m
  ends_answers (before_one z few e) =
      ap (λ t. golomb_after bits (zeros_on 0 place t)) (e ∙ sym (append-nil (replicate z 0))) ∙ ap (golomb_after bits) (zeros_missing z place few)
  ends_answers (after_one z rest few e h) =
      let d = ap length (after_code z rest e) in
      let l = length-drop (place + z + 1) bits in
      ap (λ t. golomb_after bits (zeros_on 0 place t)) e
      ∙ ap (golomb_after bits) (zeros_before z place rest few)
      ∙ ap (number_of z (place + z + 1)) ((missing_exactly bits (place + z + 1) z (z - length rest)).1 (omega arith, omega arith))

  -- ── they begin in one of these ways ──

  abbrev Begins : Type 0
  Begins = ((m : Numbered ℕ) × Coded bits place m) ⊎ (TooManyZeros bits place ⊎ ((m : ℕ) × EndsFirst bits place m))

  -- the z bits after the 1 are there, and have a value
  suffix : (z : ℕ) (rest : List ℕ) → z ≤ 31 → drop place bits ≡ replicate z 0 ++ (1 ∷ rest) → z ≤ length rest → (m : Numbered ℕ) × Coded bits place m
  suffix z rest h e k =
      let d = after_code z rest e in
      let l = sym (length-drop (place + z + 1) bits) ∙ ap length d in
      let (b, q) = read_there bits (place + z + 1) z (omega arith) in
      let x = (read_exactly bytes count (place + z + 1) z b).0 q in
      let t = ap (take z) (sym d) ∙ x.1 in (
        record { number = 2 ^ z - 1 + b; next = place + z + 1 + z },
        record {
          z = z;
          b = b;
          rest = drop z rest;
          few = h;
          small = x.0;
          there = e ∙ ap (λ l. replicate z 0 ++ (1 ∷ l)) (sym (take-append-drop z rest) ∙ ap (λ l. l ++ drop z rest) t);
          is = refl;
        },
      )

  begins_from : (n : ℕ) → (drop place bits ≡ replicate n 0) ⊎ ((rest : List ℕ) × (drop place bits ≡ replicate n 0 ++ (1 ∷ rest))) → Begins
  begins_from n (inl e) =
      by_test (leb n 31) (λ t. inr (inr (1, before_one n (leb-true _ _ t) e)))
      (λ f. inr (inl (record { rest = replicate (n - 32) 0; there = e ∙ thirty_two n (leb-false _ _ f) })))
  begins_from n (inr (rest, e)) =
      by_test (leb n 31)
      (λ t.
      by_test (ltb (length rest) n) (λ u. inr (inr (n - length rest, after_one n rest (leb-true _ _ t) e (ltb-true _ _ u))))
      (λ g. inl (suffix n rest (leb-true _ _ t) e (ltb-false _ _ g))))
      (λ f.
      inr (inl (record {
        rest = replicate (n - 32) 0 ++ (1 ∷ rest);
        there = e ∙ ap (λ l. l ++ (1 ∷ rest)) (thirty_two n (leb-false _ _ f)) ∙ append_assoc (replicate 32 0) (replicate (n - 32) 0) (1 ∷ rest);
      })))

  begins : Begins
  begins = let l = leading (drop place bits) (all_drop Binary place bits (all_payload bytes count)) in begins_from l.0 l.1

  -- ── exactly when ──

  -- within the limit the answer is that of the bits; over it TOO LONG
  within : length bytes ≤ longest_payload → golomb bytes count place ≡ answer
  within h = sym (golomb_after_lem bytes count place _ h refl)

  over : longest_payload < length bytes → golomb bytes count place ≡ refused TOO_LONG []
  over h = sym (golomb_long bytes count place h)

  by_bits : (o : Outcome (Numbered ℕ)) → golomb bytes count place ≡ o → (refused TOO_LONG [] ≡ o → ⊥) → (length bytes ≤ longest_payload) × (answer ≡ o)
  by_bits = of_bits bytes (golomb bytes count place) answer within over

  pub golomb_iff : (m : Numbered ℕ) → (golomb bytes count place ≡ done m) ↔ ((length bytes ≤ longest_payload) × Coded bits place m)
  golomb_iff m = (λ e. let (h, q) = by_bits (done m) e (λ q. not_done q) in (h, coded q begins), λ c. within c.0 ∙ coded_answers m c.1)
    where
      coded : answer ≡ done m → Begins → Coded bits place m
      coded q (inl (n, c)) = subst (Coded bits place) (done_one (sym (coded_answers n c) ∙ q)) c
      coded q (inr (inl c)) = not_done (sym (many_answers c) ∙ q)
      coded q (inr (inr (n, c))) = not_done (sym (ends_answers c) ∙ q)

  pub value_iff : (golomb bytes count place ≡ refused VALUE []) ↔ ((length bytes ≤ longest_payload) × TooManyZeros bits place)
  value_iff = (λ e. let (h, q) = by_bits (refused VALUE []) e (λ q. other_number q (λ z. omega arith)) in (h, many q begins), λ c. within c.0 ∙ many_answers c.1)
    where
      many : answer ≡ refused VALUE [] → Begins → TooManyZeros bits place
      many q (inl (n, c)) = not_done (sym q ∙ coded_answers n c)
      many q (inr (inl c)) = c
      many q (inr (inr (n, c))) = other_number (sym (ends_answers c) ∙ q) (λ z. omega arith)

  pub out_iff : (m : ℕ) → (golomb bytes count place ≡ payload_out m) ↔ ((length bytes ≤ longest_payload) × EndsFirst bits place m)
  out_iff m = (λ e. let (h, q) = by_bits (payload_out m) e (λ q. other_number q (λ z. omega arith)) in (h, ends q begins), λ c. within c.0 ∙ ends_answers c.1)
    where
      ends : answer ≡ payload_out m → Begins → EndsFirst bits place m
      ends q (inl (n, c)) = not_done (sym q ∙ coded_answers n c)
      ends q (inr (inl c)) = other_number (sym (many_answers c) ∙ q) (λ z. omega arith)
      ends q (inr (inr (n, c))) = subst (EndsFirst bits place) (out_same (sym (ends_answers c) ∙ q)) c

  pub long_iff : (golomb bytes count place ≡ refused TOO_LONG []) ↔ (longest_payload < length bytes)
  long_iff = long_exactly bytes (golomb bytes count place) answer within over (λ q. never q begins)
    where
      never : answer ≡ refused TOO_LONG [] → Begins → ⊥
      never q (inl (n, c)) = not_done (sym q ∙ coded_answers n c)
      never q (inr (inl c)) = other_number (sym (many_answers c) ∙ q) (λ z. omega arith)
      never q (inr (inr (n, c))) = other_number (sym (ends_answers c) ∙ q) (λ z. omega arith)

  -- ── how many bits are missing ──

  ends_range : {m : ℕ} → EndsFirst bits place m → (1 ≤ m) × (m ≤ 31)
  ends_range (before_one z few e) = (omega arith, omega arith)
  ends_range (after_one z rest few e h) = (omega arith, omega arith)

  pub out_range : (m : ℕ) → golomb bytes count place ≡ payload_out m → (1 ≤ m) × (m ≤ 31)
  out_range m e = ends_range ((out_iff m).0 e).1

  pub golomb_missing : SaysMissing (golomb bytes count place)
  golomb_missing = says_whole bytes (golomb bytes count place) answer within over (said begins)
    where
      said : Begins → SaysMissing answer
      said (inl (n, c)) = subst SaysMissing (sym (coded_answers n c)) (says_done n)
      said (inr (inl c)) = subst SaysMissing (sym (many_answers c)) (says_none VALUE (λ z. omega arith))
      said (inr (inr (m, c))) = subst SaysMissing (sym (ends_answers c)) (says_out m (ends_range c).0)

  -- ── signed ──

  pub signed_is : signed_golomb bytes count place ≡ map_done with_sign (golomb bytes count place)
  unfolding signed_golomb
  signed_is = refl

  pub signed_missing : SaysMissing (signed_golomb bytes count place)
  unfolding signed_golomb
  signed_missing = says_mapped with_sign golomb_missing
