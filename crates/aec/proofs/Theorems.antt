-- The theorems of the front page, from the laws.
use Rattle.std.proofs.Common.{Result, Ok, Err}
use Prim.Native.Nat.{ℕ, ◌-◌, ◌%◌, ◌≤◌, ◌<◌}
use mathlib.Core.Path.{◌≡◌, refl, sym, ap, subst, ◌∙◌}
use mathlib.Core.Logic.{◌⊎◌, inl, inr, ◌↔◌}
use mathlib.Core.List.{List, [], ◌∷◌, ◌++◌}
use mathlib.Core.Bool.{Bool, true, false, cond, ◌&&◌}
use native.Mathlib.Omega.{arith}
use borrow.Author.Tests.{le-leb, leb-true, leb-false}
use lib.Dec.{eqb, leb}
use lib.ListN.{length, replicate}
use Rattle.answers.specs.Answers.{Carried, missing, Outcome, done, refused, TOO_LONG, BAD_STATE, PAYLOAD_OUT, and_then, OneToOne}
use Rattle.answers.specs.Limits.{longest_payload}
use Rattle.answers.specs.Missing.{payload_out, SaysMissing, says_done, says_none, says_out, missing_in}
use Rattle.bits.specs.Bits.{payload, read_at, read_or}
use Rattle.std.proofs.lemmas.Bool.{and_parts}
use Rattle.bits.proofs.TestLaws.{by_test}
use Rattle.bits.proofs.BitLaws.{all_payload, leading}
use Rattle.bits.proofs.Main.{missing_exactly}
use Rattle.bits.proofs.ReadLaws.{read_there}
use Rattle.bits.proofs.LimitLaws.{of_bits, long_exactly, says_whole}
use Rattle.contexts.specs.Contexts.{good_context, update_of}
use Rattle.aec.specs.Bins.{good_state, within_limit, refused_first, no_bit, normalise_of, settle_of, start_of, step_of, pair_of, plain_of, decode_of, decode_pair_of}
use Rattle.aec.specs.Says.{refusal_says, started_says, of_step, of_bin, of_pair, stepped_says, decoded_says, decoded_pair_says}
use Rattle.aec.specs.Claims.{Leads, Runs, runs_done, runs_out, Refuses, LacksStart, of_nine, only_zeros, few_after, SameBits}
use Rattle.aec.specs.declared.State.{State}
use Rattle.contexts.specs.declared.Context.{Context}
use Rattle.aec.specs.Bins.{Guess}
use Rattle.aec.specs.declared.Shift.{Shift}
use Rattle.aec.specs.declared.Refusal.TheVariants.{TooLong}
use Rattle.aec.specs.declared.StartError.{StartError}
use Rattle.aec.specs.declared.StartError.TheVariants as start
use Rattle.aec.proofs.AnswerLaws.{answer, answer_refused, says_apart}
use Rattle.answers.proofs.OutcomeLaws.{not_refused, other_number, carried_same, out_same, undone, goes, then_done}
use Rattle.contexts.proofs.ContextLaws.{context_ranges, updated_good}
use Rattle.aec.proofs.RangeLaws.{state_ranges, ranges_state}
use Rattle.aec.proofs.PairLaws.{Predicts, pair_predicts}
use Rattle.aec.proofs.StepLaws.{limit_passed, limit_kept, first_long, first_bad, first_fine, first_held}
use Rattle.aec.proofs.StartLaws.{lacks_one, lacks_after, ends_after}
use Rattle.aec.proofs.GoodLaws.{step_good, start_ranges, runs_then, runs_step}

-- ── no two answers say the same ──

pub refusal_one_to_one : {A : Type 0} → OneToOne (refusal_says {A = A})
refusal_one_to_one {A} = undone (refusal_says {A = A}) (answer (λ _. TooLong) (λ r. r)) (answer_refused {A = A} (λ _. TooLong) (λ r. r))

pub started_one_to_one : OneToOne started_says
started_one_to_one = undone started_says back is
  where
    back : Outcome State → Result State StartError
    back (done x) = Ok x
    back (refused n carried) = Err (cond (eqb n TOO_LONG) start.TooLong (start.PayloadOut (missing_in carried)))

    is : (a : Result State StartError) → back (started_says a) ≡ a
    is (Ok x) = refl
    is (Err start.TooLong) = refl
    is (Err (start.PayloadOut m)) = refl

pub stepped_one_to_one : OneToOne stepped_says
stepped_one_to_one = says_apart of_step (λ v. record { bin = v.0; state = v.1 }) (λ a. refl)

pub decoded_one_to_one : OneToOne decoded_says
decoded_one_to_one = says_apart of_bin (λ v. record { bin = v.0; state = v.1; contexts = v.2 }) (λ a. refl)

pub decoded_pair_one_to_one : OneToOne decoded_pair_says
decoded_pair_one_to_one = says_apart of_pair (λ v. record { bin = v.0; state = v.1; contexts = record { first = v.2; second = v.3 } }) (λ a. refl)

-- ── good leads to good ──

pub start_good : (bytes : List ℕ) (count : ℕ) (x : State) → start_of bytes count ≡ done x → good_state (length (payload bytes count)) x ≡ true
start_good bytes count x e = sym (ranges_state _ x (start_ranges bytes count x e))

module _ (bytes : List ℕ) (count : ℕ) (x : State) where
  -- a step that followed the first tests
  step_leads : (contexts : Bool) (g : Guess) (r : ℕ × State) → refused_first bytes count x contexts ≡ done tt → Predicts g
      → step_of (payload bytes count) x g ≡ done r → Leads bytes count x r.0 r.1
  step_leads contexts g r e p s =
      let h = first_held bytes count x contexts e in
      let k = step_good bytes count h.0 x g r (state_ranges _ x h.1) p s in
      record { good = sym (ranges_state _ r.1 k.0); binary = k.1; onward = k.2; inside = k.0.place }

  pub plain_good : (lg : ℕ) (r : ℕ × State) → 4 ≤ lg → lg ≤ 1023 → plain_of bytes count x lg ≡ done r → Leads bytes count x r.0 r.1
  plain_good lg r low high e =
      let c = then_done (refused_first bytes count x true) _ r e in
      step_leads true (record { p = 0; lg = lg }) r c.from (record { bin = omega arith; low = low; high = high }) c.to

  pub decode_good : (c : Context) (r : ℕ × State × Context) → decode_of bytes count x c ≡ done r → (Leads bytes count x r.0 r.1) × (good_context r.2 ≡ true)
  unfolding decode_of
  decode_good c r e =
      let f = then_done (refused_first bytes count x (good_context c)) _ r e in
      let s = then_done (step_of (payload bytes count) x (record { p = c.mps; lg = c.lg })) _ r f.to in
      let good = (first_held bytes count x (good_context c) f.from).2 in
      let h = context_ranges c good in
      let is : ◌≡◌ {A = ℕ × State × Context} (s.value.0, s.value.1, update_of c s.value.0) r = cc s.to in
      subst (λ r. (Leads bytes count x r.0 r.1) × (good_context r.2 ≡ true)) is
      (step_leads (good_context c) _ s.value f.from (record { bin = h.mps; low = h.low; high = h.high }) s.from, updated_good c _ good)

  pub decode_pair_good : (a b : Context) (r : ℕ × State × Context × Context) → decode_pair_of bytes count x a b ≡ done r
      → (Leads bytes count x r.0 r.1) × (good_context r.2 ≡ true) × (good_context r.3 ≡ true)
  unfolding decode_pair_of
  decode_pair_good a b r e =
      let f = then_done (refused_first bytes count x (good_context a && good_context b)) _ r e in
      let s = then_done (step_of (payload bytes count) x (pair_of a b)) _ r f.to in
      let good = and_parts _ _ (first_held bytes count x (good_context a && good_context b) f.from).2 in
      let p = pair_predicts a b (context_ranges a good.0) (context_ranges b good.1) in
      let is : ◌≡◌ {A = ℕ × State × Context × Context} (s.value.0, s.value.1, update_of a s.value.0, update_of b s.value.0) r = cc s.to in
      subst (λ r. (Leads bytes count x r.0 r.1) × (good_context r.2 ≡ true) × (good_context r.3 ≡ true)) is
      (step_leads (good_context a && good_context b) _ s.value f.from p s.from, updated_good a _ good.0, updated_good b _ good.1)

-- ── the order of refusals ──

-- an answer that runs is refused with no other number
runs_not : {A : Type 0} {o : Outcome A} (n : ℕ) → Runs o → (n ≡ PAYLOAD_OUT → ⊥) → o ≡ refused n [] → ⊥
runs_not n runs_done h e = not_refused e
runs_not n runs_out h e = other_number e (λ z. h (sym z))

-- and then one bit is missing
runs_one : {A : Type 0} {o : Outcome A} {carried : List Carried} → Runs o → o ≡ refused PAYLOAD_OUT carried → carried ≡ missing 1 ∷ []
runs_one runs_done e = not_refused e
runs_one runs_out e = sym (carried_same e)

runs_missing : {A : Type 0} {o : Outcome A} → Runs o → SaysMissing o
runs_missing (runs_done {value}) = says_done value
runs_missing runs_out = says_out 1 (omega arith)

module _ (bytes : List ℕ) (count : ℕ) (x : State) (contexts : Bool) {A : Type 0} (next : Unit {0} → Outcome A) (runs : Runs (next tt)) where
  refuses : Refuses bytes count x contexts (and_then (refused_first bytes count x contexts) next)
  refuses =
      let o = and_then (refused_first bytes count x contexts) next in
      let good = good_state (length (payload bytes count)) x && contexts in
      let is_long : longest_payload < length bytes → o ≡ refused TOO_LONG [] = λ h. sym (ap (λ p. and_then p next) (first_long bytes count x contexts h)) in
      let is_bad : length bytes ≤ longest_payload → good ≡ false → o ≡ refused BAD_STATE [] = λ h k. sym (ap (λ p. and_then p next) (first_bad bytes count x contexts h k)) in
      let runs_past : length bytes ≤ longest_payload → good ≡ true → Runs o = λ h k. subst Runs (goes next (first_fine bytes count x contexts h k)) runs in
      record {
        long = (
          λ e.
              by_test (leb (length bytes) longest_payload)
              (λ t.
              let h = leb-true (length bytes) longest_payload t in
              by_test good (λ g. absurd (runs_not TOO_LONG (runs_past h g) (λ z. omega arith) e)) (λ g. other_number (sym e ∙ is_bad h g) (λ z. omega arith)))
              (λ f. leb-false (length bytes) longest_payload f),
          is_long,
        );
        bad = (
          λ e.
              by_test (leb (length bytes) longest_payload)
              (λ t.
              let h = leb-true (length bytes) longest_payload t in
              (h, by_test good (λ g. absurd (runs_not BAD_STATE (runs_past h g) (λ z. omega arith) e)) (λ g. g)))
              (λ f. other_number (sym e ∙ is_long (leb-false (length bytes) longest_payload f)) (λ z. omega arith)),
          λ h. is_bad h.0 h.1,
        );
        past = runs_past;
        out =
            λ carried e.
            by_test (leb (length bytes) longest_payload)
            (λ t.
            let h = leb-true (length bytes) longest_payload t in
            by_test good (λ g. runs_one (runs_past h g) e) (λ g. other_number (sym (is_bad h g) ∙ e) (λ z. omega arith)))
            (λ f. other_number (sym (is_long (leb-false (length bytes) longest_payload f)) ∙ e) (λ z. omega arith));
      }

-- what is refused first carries nothing, and all else says how many bits are missing
pub refuses_missing : {A : Type 0} (bytes : List ℕ) (count : ℕ) (x : State) (contexts : Bool) (o : Outcome A) → Refuses bytes count x contexts o → SaysMissing o
refuses_missing bytes count x contexts o r =
    by_test (leb (length bytes) longest_payload)
    (λ t.
    let h = leb-true _ _ t in
    by_test (good_state (length (payload bytes count)) x && contexts) (λ g. runs_missing (r.past h g))
    (λ g. subst SaysMissing (sym (r.bad.1 (h, g))) (says_none BAD_STATE (λ z. omega arith))))
    (λ f. subst SaysMissing (sym (r.long.1 (leb-false _ _ f))) (says_none TOO_LONG (λ z. omega arith)))

module _ (bytes : List ℕ) (count : ℕ) (x : State) where
  pub plain_refuses : (lg : ℕ) → Refuses bytes count x true (plain_of bytes count x lg)
  plain_refuses lg = refuses bytes count x true _ (runs_step (payload bytes count) x (record { p = 0; lg = lg }))

  pub decode_refuses : (c : Context) → Refuses bytes count x (good_context c) (decode_of bytes count x c)
  unfolding decode_of
  decode_refuses c = refuses bytes count x (good_context c) _ (runs_then _ (runs_step (payload bytes count) x (record { p = c.mps; lg = c.lg })) (λ r. runs_done))

  pub decode_pair_refuses : (a b : Context) → Refuses bytes count x (good_context a && good_context b) (decode_pair_of bytes count x a b)
  unfolding decode_pair_of
  decode_pair_refuses a b = refuses bytes count x (good_context a && good_context b) _ (runs_then _ (runs_step (payload bytes count) x (pair_of a b)) (λ r. runs_done))

-- ── the start ──

module _ (bytes : List ℕ) (count : ℕ) where
  -- what the start does past its first test
  abbrev starting : Outcome State
  starting = read_or (λ vt. settle_of (payload bytes count) 255 vt 9) payload_out (read_at (payload bytes count) 0 9)

  within : length bytes ≤ longest_payload → start_of bytes count ≡ starting
  unfolding start_of
  within h = sym (limit_kept bytes starting h)

  over : longest_payload < length bytes → start_of bytes count ≡ refused TOO_LONG []
  unfolding start_of
  over h = sym (limit_passed bytes starting h)

  abbrev bits : List ℕ
  bits = payload bytes count

  settled : (v : ℕ) (o : Outcome Shift) → read_at bits 0 9 ≡ Ok v → normalise_of bits v 9 ≡ o → starting ≡ and_then o (λ z. done (record { rs = 0; rt = 255; vs = z.beside; vt = z.value % 256; place = z.place }))
  settled v o r e = rw (r, e)

  lacks_answers : {m : ℕ} → LacksStart bits m → starting ≡ payload_out m
  lacks_answers (of_nine few) = rw ((missing_exactly bits 0 9 (9 - length bits)).1 (omega arith, omega arith))
  lacks_answers (only_zeros many z e) = let (v, r) = read_there bits 0 9 (omega arith) in settled v no_bit r (lacks_one bits v (all_payload bytes count) r z e)
  lacks_answers (few_after many z rest e few) = let (v, r) = read_there bits 0 9 (omega arith) in settled v no_bit r (lacks_after bits v (all_payload bytes count) r z rest e few)

  -- it lacks bits, or is done
  abbrev Starts : Type 0
  Starts = ((x : State) × (starting ≡ done x)) ⊎ ((m : ℕ) × LacksStart bits m)

  starts_from : 9 ≤ length bits → (n : ℕ) → (bits ≡ replicate n 0) ⊎ ((rest : List ℕ) × (bits ≡ replicate n 0 ++ (1 ∷ rest))) → Starts
  starts_from many n (inl e) = inr (1, only_zeros many n e)
  starts_from many n (inr (rest, e)) =
      by_test (leb 8 (length rest))
      (λ t.
      let (v, r) = read_there bits 0 9 (omega arith) in
      let (w, d) = ends_after bits v (all_payload bytes count) r n rest e (leb-true _ _ t) in
      inl (_, settled v (done w) r d))
      (λ f. inr (1, few_after many n rest e (leb-false _ _ f)))

  starts : Starts
  starts =
      by_test (leb 9 (length bits)) (λ t. let l = leading bits (all_payload bytes count) in starts_from (leb-true _ _ t) l.0 l.1)
      (λ f. inr (9 - length bits, of_nine (leb-false _ _ f)))

  pub start_long : (start_of bytes count ≡ refused TOO_LONG []) ↔ (longest_payload < length bytes)
  start_long = long_exactly bytes (start_of bytes count) starting within over (λ q. never q starts)
    where
      never : starting ≡ refused TOO_LONG [] → Starts → ⊥
      never q (inl (x, e)) = not_refused (sym e ∙ q)
      never q (inr (m, c)) = other_number (sym (lacks_answers c) ∙ q) (λ z. omega arith)

  pub start_out : (m : ℕ) → (start_of bytes count ≡ payload_out m) ↔ ((length bytes ≤ longest_payload) × LacksStart bits m)
  start_out m = (
    λ e.
        let (h, q) = of_bits bytes (start_of bytes count) starting within over (payload_out m) e (λ q. other_number q (λ z. omega arith)) in
        (h, out q starts),
    λ c. within c.0 ∙ lacks_answers c.1,
  )
    where
      out : starting ≡ payload_out m → Starts → LacksStart bits m
      out q (inl (x, e)) = not_refused (sym e ∙ q)
      out q (inr (n, c)) = subst (LacksStart bits) (out_same (sym (lacks_answers c) ∙ q)) c

  lacks_range : {m : ℕ} → LacksStart bits m → (1 ≤ m) × (m ≤ 9)
  lacks_range (of_nine few) = (omega arith, omega arith)
  lacks_range (only_zeros many z e) = (omega arith, omega arith)
  lacks_range (few_after many z rest e few) = (omega arith, omega arith)

  pub start_range : (m : ℕ) → start_of bytes count ≡ payload_out m → (1 ≤ m) × (m ≤ 9)
  start_range m e = lacks_range ((start_out m).0 e).1

  pub start_missing : SaysMissing (start_of bytes count)
  start_missing = says_whole bytes (start_of bytes count) starting within over (said starts)
    where
      said : Starts → SaysMissing starting
      said (inl (x, e)) = subst SaysMissing (sym e) (says_done x)
      said (inr (m, c)) = subst SaysMissing (sym (lacks_answers c)) (says_out m (lacks_range c).0)

-- ── only the payload's bits count ──

module _ (bytes : List ℕ) (count : ℕ) (others : List ℕ) (number : ℕ) (s : SameBits bytes count others number) where
  first_same : (x : State) (contexts : Bool) → refused_first bytes count x contexts ≡ refused_first others number x contexts
  unfolding refused_first within_limit
  first_same x contexts = simp (le-leb _ _ s.short, le-leb _ _ s.shorter, s.same)

  pub start_same : start_of bytes count ≡ start_of others number
  start_same = within bytes count s.short ∙ rw s.same (sym (within others number s.shorter))

  pub plain_same : (x : State) (lg : ℕ) → plain_of bytes count x lg ≡ plain_of others number x lg
  plain_same x lg = rw (first_same x true, s.same)

  pub decode_same : (x : State) (c : Context) → decode_of bytes count x c ≡ decode_of others number x c
  unfolding decode_of
  decode_same x c = rw (first_same x (good_context c), s.same)

  pub decode_pair_same : (x : State) (a b : Context) → decode_pair_of bytes count x a b ≡ decode_pair_of others number x a b
  unfolding decode_pair_of
  decode_pair_same x a b = rw (first_same x (good_context a && good_context b), s.same)
