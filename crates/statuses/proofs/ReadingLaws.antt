-- What C is answered, by the readings of a stream.
use Prim.Native.Nat.{ℕ}
use mathlib.Core.Path.{◌≡◌, refl, ap}
use mathlib.Core.Logic.{◌≢◌, ◌↔◌}
use mathlib.Core.List.{List}
use native.Mathlib.Omega.{arith}
use lib.ListN.{length}
use Rattle.answers.specs.Answers.{Carried, Outcome, done, refused, FULL}
use Rattle.answers.proofs.OutcomeLaws.{not_done, done_one}
use Rattle.grammar.specs.Refusals.{RefusesInto}
use Rattle.grammar.specs.Reader.{walk_into, filing_into}
use Rattle.grammar.proofs.Main.{some_number, into_stopped_iff}
use Rattle.grammar.proofs.Refusals.{said_iff}
use Rattle.filing.specs.Filing.{totals, words_after}
use Rattle.filing.specs.Reader.{filed}
use Rattle.filing.specs.declared.Totals.{Totals}
use Rattle.filing.proofs.Demand.{by_reading}
use Rattle.statuses.specs.Answers.{filed_answer, AnsweredByReading}

-- no refusal has the number of FILED
refused_some : (s : List ℕ) (lent n : ℕ) (carried : List Carried) → filed s lent ≡ refused n carried → n ≢ 0
unfolding filed
refused_some s lent n carried e z =
    let (why, at, k, is, c) = (said_iff totals (walk_into s lent) (RefusesInto s lent) (into_stopped_iff s lent) n carried).0 e in
    let some = some_number why in
    omega arith

-- what status and count say of an outcome
module _ (o : Outcome Totals) (some : (n : ℕ) (carried : List Carried) → o ≡ refused n carried → n ≢ 0) where
  said_filed : (n : ℕ) → (((filed_answer o).status ≡ 0) × ((filed_answer o).count ≡ n)) ↔ (o ≡ done (record { units = n }))
  said_filed n = go o refl
    where
      go : (p : Outcome Totals) → o ≡ p → (((filed_answer p).status ≡ 0) × ((filed_answer p).count ≡ n)) ↔ (p ≡ done (record { units = n }))
      go (done t) e = ((λ h. ap (λ (m : ℕ). done (record { units = m })) h.1), λ d. (refl, ap (λ (t : Totals). t.units) (done_one d)))
      go (refused m carried) e = ((λ h. absurd (some m carried e h.0)), λ d. not_done d)

said_full : (o : Outcome Totals) → (filed_answer o).status ≡ FULL → (carried : List Carried) × (o ≡ refused FULL carried)
said_full (done t) e = absurd (omega arith)
said_full (refused n carried) e = (carried, ap (λ (m : ℕ). refused m carried) e)

said_refused : (o : Outcome Totals) → (filed_answer o).status ≢ 0 → (n : ℕ) × (carried : List Carried) × (o ≡ refused n carried)
said_refused (done t) h = absurd (h refl)
said_refused (refused n carried) h = (n, carried, refl)

pub file_by_reading : (stream lent : List ℕ) → AnsweredByReading stream lent (words_after (filing_into stream (length lent)) lent) (filed_answer (filed stream (length lent)))
file_by_reading stream lent =
    let o = filed stream (length lent) in
    by_reading stream lent _ refl _ _ _ (said_filed o (refused_some stream (length lent))) (said_full o) (λ e. ap (λ (o : Outcome Totals). (filed_answer o).status) e) (said_refused o)
