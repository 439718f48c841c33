-- The front page: the marks that stand where there is no number, no bin and no entry are no answer's number, bin or entry; and how many
-- bits were missing is 0 exactly where the status is not PAYLOAD OUT.
use Prim.Native.Nat.{ℕ, zero, suc, ◌+◌, ◌/◌, ◌%◌, ◌≤◌, ◌<◌}
use mathlib.Core.Path.{◌≡◌, refl, sym, ap, ◌∙◌}
use mathlib.Core.Logic.{◌≢◌}
use mathlib.Core.List.{List, [], ◌∷◌}
use mathlib.Core.Bool.{Bool, true, false, cond}
use native.Mathlib.Omega.{arith}
use lib.Dec.{eqb, leb→le}
use lib.IntN.{ℤ, pos, negsuc, neg_ℤ}
use Rattle.answers.specs.Answers.{Carried, Outcome, done, refused, map_done, PAYLOAD_OUT}
use Rattle.answers.specs.Answers as answers
use Rattle.answers.specs.Missing.{SaysMissing, says_done, says_none, says_out, missing_in}
use Rattle.answers.proofs.OutcomeLaws.{map_done_lem}
use Rattle.payload.specs.declared.Numbered.{Numbered}
use Rattle.payload.specs.Golomb.{stands_for, with_sign}
use Rattle.payload.specs.Reader.{golomb, signed_golomb}
use Rattle.payload.proofs.GolombLaws.{golomb_bound}
use Rattle.payload.proofs.Main as payload
use Rattle.rates.specs.declared.Rate.{Rate}
use Rattle.entries.specs.Entries.{entry_of}
use Rattle.std.proofs.Common.{Some}
use Rattle.entries.proofs.Main as entries
use Rattle.aec.specs.Bins.{start_of, bypass_of, stuffing_of, decode_of, decode_pair_of}
use Rattle.aec.specs.declared.State.{State}
use Rattle.contexts.specs.declared.Context.{Context}
use Rattle.aec.proofs.Main as aec
use Rattle.marked.specs.Payloads.{no_number, no_signed_number, no_bin, no_lg, ToldMissing, number_answer, signed_answer, begun_answer, plain_answer, bin_answer, pair_answer}

pub number_marked : (bytes : List ℕ) (bits place : ℕ) (m : Numbered ℕ) → golomb bytes bits place ≡ done m → m.number ≢ no_number
number_marked bytes bits place m e z = let h = golomb_bound bytes bits place m e in omega arith

-- how far a number is below 0
below : ℤ → ℕ
below (pos n) = 0
below (negsuc n) = suc n

below_minus : (k : ℕ) → below (neg_ℤ (pos k)) ≡ k
unfolding below
below_minus zero = refl
below_minus (suc k) = refl

-- half of a number below 2^32 - 1 is below 2^31
signed_small : (n : ℕ) → n < 4294967295 → below (stands_for n) < 2147483648
unfolding below stands_for
signed_small n h = halves (eqb (n % 2) 1)
  where
    halves : (odd : Bool) → below (cond odd (pos ((n + 1) / 2)) (neg_ℤ (pos (n / 2)))) < 2147483648
    halves true = omega arith
    halves false = let e = below_minus (n / 2) in omega arith

-- the mark is further below 0
mark_far : 2147483648 ≤ below no_signed_number
unfolding below
mark_far = leb→le 2147483648 (below no_signed_number) tt

pub signed_marked : (bytes : List ℕ) (bits place : ℕ) (m : Numbered ℤ) → signed_golomb bytes bits place ≡ done m → m.number ≢ no_signed_number
unfolding signed_golomb
signed_marked bytes bits place m e z =
    let u = map_done_lem with_sign (golomb bytes bits place) m e in
    let h = signed_small u.0.number (golomb_bound bytes bits place u.0 u.1) in
    let k = ap below (ap (λ (n : Numbered ℤ). n.number) u.2 ∙ z) in
    let far = mark_far in
    omega arith

pub bypass_marked : (bytes : List ℕ) (bits : ℕ) (x : State) (bin : ℕ) (y : State) → bypass_of bytes bits x ≡ done (bin, y) → bin ≢ no_bin
bypass_marked bytes bits x bin y e z = let h = (aec.bypass_good bytes bits x bin y e).binary in omega arith

pub stuffing_marked : (bytes : List ℕ) (bits : ℕ) (x : State) (bin : ℕ) (y : State) → stuffing_of bytes bits x ≡ done (bin, y) → bin ≢ no_bin
stuffing_marked bytes bits x bin y e z = let h = (aec.stuffing_good bytes bits x bin y e).binary in omega arith

pub decode_marked : (bytes : List ℕ) (bits : ℕ) (x : State) (c : Context) (bin : ℕ) (y : State) (d : Context) → decode_of bytes bits x c ≡ done (bin, y, d) → bin ≢ no_bin
decode_marked bytes bits x c bin y d e z = let h = (aec.decode_good bytes bits x c bin y d e).0.binary in omega arith

pub decode_pair_marked : (bytes : List ℕ) (bits : ℕ) (x : State) (a b : Context) (bin : ℕ) (y : State) (c d : Context)
    → decode_pair_of bytes bits x a b ≡ done (bin, y, c, d) → bin ≢ no_bin
decode_pair_marked bytes bits x a b bin y c d e z = let h = (aec.decode_pair_good bytes bits x a b bin y c d e).0.binary in omega arith

pub entry_marked : (r : Rate) (index lg : ℕ) → entry_of r index ≡ Some lg → lg ≢ no_lg
entry_marked r index lg e z = let h = entries.entry_bounded r index lg e in omega arith

-- ── how many bits were missing ──

-- of an answer that hands the refusal's number and count over
module _ {A R : Type 0} (answer : Outcome A → R) (status missing : R → ℕ) (of-done : (a : A) → (status (answer (done a)) ≡ 0) × (missing (answer (done a)) ≡ 0))
    (of-refused : (n : ℕ) (carried : List Carried) → (status (answer (refused n carried)) ≡ n) × (missing (answer (refused n carried)) ≡ missing_in carried)) where
  told : {o : Outcome A} → SaysMissing o → ToldMissing (status (answer o)) (missing (answer o))
  told (says_done a) = let (s, m) = of-done a in (λ _ e. omega arith, λ _. m)
  told (says_none n h) = let (s, m) = of-refused n [] in (λ _ e. h (sym s ∙ e), λ _. m)
  told (says_out k h) = let (s, m) = of-refused PAYLOAD_OUT (answers.missing k ∷ []) in (λ z e. omega arith, λ h. absurd (h s))

module _ (bytes : List ℕ) (bits : ℕ) where
  pub number_told : (place : ℕ) → let r = number_answer place (golomb bytes bits place) in ToldMissing r.status r.missing
  number_told place = told (number_answer place) (λ r. r.status) (λ r. r.missing) (λ a. (refl, refl)) (λ n c. (refl, refl)) (payload.golomb_missing bytes bits place)

  pub signed_told : (place : ℕ) → let r = signed_answer place (signed_golomb bytes bits place) in ToldMissing r.status r.missing
  signed_told place = told (signed_answer place) (λ r. r.status) (λ r. r.missing) (λ a. (refl, refl)) (λ n c. (refl, refl)) (payload.signed_missing bytes bits place)

  pub begun_told : (x : State) → let r = begun_answer x (start_of bytes bits) in ToldMissing r.status r.missing
  begun_told x = told (begun_answer x) (λ r. r.status) (λ r. r.missing) (λ a. (refl, refl)) (λ n c. (refl, refl)) (aec.start_missing bytes bits)

  pub bypass_told : (x : State) → let r = plain_answer x (bypass_of bytes bits x) in ToldMissing r.status r.missing
  bypass_told x = told (plain_answer x) (λ r. r.status) (λ r. r.missing) (λ a. (refl, refl)) (λ n c. (refl, refl)) (aec.bypass_missing bytes bits x)

  pub stuffing_told : (x : State) → let r = plain_answer x (stuffing_of bytes bits x) in ToldMissing r.status r.missing
  stuffing_told x = told (plain_answer x) (λ r. r.status) (λ r. r.missing) (λ a. (refl, refl)) (λ n c. (refl, refl)) (aec.stuffing_missing bytes bits x)

  pub decode_told : (x : State) (c : Context) → let r = bin_answer x c (decode_of bytes bits x c) in ToldMissing r.status r.missing
  decode_told x c = told (bin_answer x c) (λ r. r.status) (λ r. r.missing) (λ a. (refl, refl)) (λ n c. (refl, refl)) (aec.decode_missing bytes bits x c)

  pub decode_pair_told : (x : State) (a b : Context) → let r = pair_answer x a b (decode_pair_of bytes bits x a b) in ToldMissing r.status r.missing
  decode_pair_told x a b = told (pair_answer x a b) (λ r. r.status) (λ r. r.missing) (λ a. (refl, refl)) (λ n c. (refl, refl)) (aec.decode_pair_missing bytes bits x a b)
