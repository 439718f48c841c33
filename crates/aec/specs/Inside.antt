-- What the private functions promise one another; no part of document 01.
use Rattle.std.specs.Prelude.{ℕ, ◌+◌, ◌-◌, ◌*◌, ◌≡◌, Bool, List, cond, eqb, ◌&&◌, Option, Some, None}
use Rattle.answers.specs.Answers.{Outcome, done, and_then}
use Rattle.bits.specs.Bits.{payload}
use Rattle.bits.specs.declared.Payload.{Payload}
use Rattle.contexts.specs.Contexts.{good_context, update_of}
use Rattle.contexts.specs.declared.Context.{Context}
use Rattle.aec.specs.Bins.{Parts, Guess, refused_first, step_of, pair_of}
use Rattle.aec.specs.declared.Doubled.{Doubled}
use Rattle.aec.specs.declared.Pair.{Pair}
use Rattle.aec.specs.declared.ranges.Split as ranges
use Rattle.aec.specs.declared.ranges.Prediction as predicted
use Rattle.aec.specs.declared.State.{State}
use Rattle.aec.specs.declared.Stepped.{Stepped}

-- values that document 01 has as they are, or as a number and the place after its bit
abbrev pub itself : {A : Type 0} → A → A
itself a = a

abbrev pub of_bit : Doubled → ℕ × ℕ
of_bit d = (d.number, d.next)

-- a payload's bits
abbrev pub held : Payload → List ℕ
held bits = payload bits.bytes.now bits.count

-- the bits of a payload within the limit and a state within its ranges, or what is refused before a bit is read
abbrev pub guarded_of : List ℕ → ℕ → State → Bool → Outcome (List ℕ × State)
guarded_of bytes count x contexts = and_then (refused_first bytes count x contexts) (λ _. done (payload bytes count, x))

-- s, t and R, and p and lg
abbrev pub of_split : ranges.Split → Parts
of_split y = record { s = y.s; t = y.t; range = y.range }

abbrev pub of_prediction : predicted.Prediction → Guess
of_prediction g = record { p = g.p; lg = g.lg }

-- where the quick way answers, it answers the outcome
abbrev pub Quickly : Option Stepped → Outcome (ℕ × State) → Type 0
Quickly (Some r) outcome = done (r.bin, r.state) ≡ outcome
Quickly None outcome = Unit {0}

-- valueT less t, but without the bit that is borrowed where s is past valueS
abbrev pub head_of : State → Parts → ℕ
head_of x y = cond (eqb y.s x.vs) (x.vt - y.t) (256 + x.vt * 2 - y.t)

-- ── one bin, by contexts of which only their test, prediction and update are known ──

module _ {C : Type 0} (good : C → Bool) (predicts : C → Guess) (update : C → ℕ → C) where
  unfoldable pub bin_by : List ℕ → ℕ → State → C → Outcome (ℕ × State × C)
  bin_by bytes count x c =
      and_then (refused_first bytes count x (good c)) (λ _.
      and_then (step_of (payload bytes count) x (predicts c)) (λ r. done (r.0, r.1, update c r.0)))

-- one context
abbrev pub own_prediction : Context → Guess
own_prediction c = record { p = c.mps; lg = c.lg }

-- two
abbrev pub good_pair : Pair → Bool
good_pair c = good_context c.first && good_context c.second

abbrev pub pair_prediction : Pair → Guess
pair_prediction c = pair_of c.first c.second

abbrev pub update_pair : Pair → ℕ → Pair
update_pair c bin = record { first = update_of c.first bin; second = update_of c.second bin }
