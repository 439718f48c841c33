-- The words of the theorems about answers (proofs/Main.antt).
use Rattle.std.specs.Prelude.{ℕ, ◌-◌, ◌≤◌, ◌<◌, ◌≡◌, ◌↔◌, List, [], ◌∷◌, ◌++◌, Bool, true, false, ◌&&◌, length, replicate}
use Rattle.answers.specs.Answers.{Carried, missing, Outcome, done, refused, TOO_LONG, BAD_STATE, PAYLOAD_OUT}
use Rattle.answers.specs.Limits.{longest_payload}
use Rattle.answers.specs.Missing.{payload_out}
use Rattle.bits.specs.Bits.{payload}
use Rattle.aec.specs.Bins.{good_state}
use Rattle.aec.specs.declared.State.{State}

-- a bin that was answered: it is 0 or 1, the next state is within its ranges, and the place went on within the payload's bits
pub record Leads (bytes : List ℕ) (count : ℕ) (x : State) (bin : ℕ) (y : State) : Type 0 where
  pub good : good_state (length (payload bytes count)) y ≡ true
  pub binary : bin ≤ 1
  pub onward : x.place ≤ y.place
  pub inside : y.place ≤ length (payload bytes count)

-- an answer that is done, or PAYLOAD OUT with one bit missing
pub data Runs {A : Type 0} : Outcome A → Type 0 where
  runs_done : {value : A} → Runs (done value)
  runs_out : Runs (payload_out 1)

-- exactly when each refusal is given: TOO LONG, then BAD STATE, and past these only PAYLOAD OUT, always with one bit missing
pub record Refuses {A : Type 0} (bytes : List ℕ) (count : ℕ) (x : State) (contexts : Bool) (o : Outcome A) : Type 0 where
  pub long : (o ≡ refused TOO_LONG []) ↔ (longest_payload < length bytes)
  pub bad : (o ≡ refused BAD_STATE []) ↔ ((length bytes ≤ longest_payload) × ((good_state (length (payload bytes count)) x && contexts) ≡ false))
  pub past : length bytes ≤ longest_payload → (good_state (length (payload bytes count)) x && contexts) ≡ true → Runs o
  pub out : (carried : List Carried) → o ≡ refused PAYLOAD_OUT carried → carried ≡ missing 1 ∷ []

-- The start lacks so many bits: the first nine are one read. It then takes bits one by one to the eighth after the first 1, so one is
-- missing where there is no 1, or fewer than eight after it.
pub data LacksStart (bits : List ℕ) : ℕ → Type 0 where
  of_nine : length bits < 9 → LacksStart bits (9 - length bits)
  only_zeros : 9 ≤ length bits → (z : ℕ) → bits ≡ replicate z 0 → LacksStart bits 1
  few_after : 9 ≤ length bits → (z : ℕ) (rest : List ℕ) → bits ≡ replicate z 0 ++ (1 ∷ rest) → length rest < 8 → LacksStart bits 1

-- two payloads of the same bits, neither over the limit
pub record SameBits (bytes : List ℕ) (count : ℕ) (others : List ℕ) (number : ℕ) : Type 0 where
  pub short : length bytes ≤ longest_payload
  pub shorter : length others ≤ longest_payload
  pub same : payload bytes count ≡ payload others number
