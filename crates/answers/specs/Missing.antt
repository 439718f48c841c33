-- Document 02, E13: "PAYLOAD OUT carry it everywhere: Exp-Golomb, bins and all that later reads bits, at least 1".
use Rattle.std.specs.Prelude.{ℕ, ◌≤◌, ◌≢◌, List, [], ◌∷◌}
use Rattle.answers.specs.Answers.{Carried, at_offset, at_bit, missing, Outcome, done, refused, PAYLOAD_OUT}

-- so many bits were missing
abbrev pub payload_out : {A : Type 0} → ℕ → Outcome A
payload_out m = refused PAYLOAD_OUT (missing m ∷ [])

-- an answer of what reads bits: PAYLOAD OUT carries a count and nothing else, and no other refusal carries anything
pub data SaysMissing {A : Type 0} : Outcome A → Type 0 where
  says_done : (a : A) → SaysMissing (done a)
  says_none : (n : ℕ) → n ≢ PAYLOAD_OUT → SaysMissing (refused n [])
  says_out : (m : ℕ) → 1 ≤ m → SaysMissing (payload_out m)

-- how many bits were missing, by what a refusal carries: none, where it carries no count of them
abbrev pub missing_in : List Carried → ℕ
missing_in [] = 0
missing_in (at_offset n ∷ more) = missing_in more
missing_in (at_bit n ∷ more) = missing_in more
missing_in (missing m ∷ more) = m
