-- What each answer says in document 01's terms: its number, and its values.
use Rattle.std.specs.Prelude.{ℕ, List, [], ◌∷◌, Result, Ok, Err}
use Rattle.answers.specs.Answers.{Carried, missing, Outcome, done, refused, TOO_LONG, BAD_STATE, PAYLOAD_OUT}
use Rattle.answers.specs.Missing.{payload_out}
use Rattle.aec.specs.declared.State.{State}
use Rattle.contexts.specs.declared.Context.{Context}
use Rattle.aec.specs.declared.Refusal.{Refusal}
use Rattle.aec.specs.declared.Refusal.TheVariants as refusal
use Rattle.aec.specs.declared.StartError.{StartError}
use Rattle.aec.specs.declared.StartError.TheVariants as start
use Rattle.aec.specs.declared.Stepped.{Stepped}
use Rattle.aec.specs.declared.Decoded.{Decoded}
use Rattle.aec.specs.declared.Pair.{Pair}

-- the start: PAYLOAD OUT carries how many bits were missing
abbrev pub started_says : Result State StartError → Outcome State
started_says (Ok x) = done x
started_says (Err start.TooLong) = refused TOO_LONG []
started_says (Err (start.PayloadOut m)) = payload_out m

-- a bin's refusal, by its number and what it carries: PAYLOAD OUT is for want of one bit
abbrev pub refusal_number : Refusal → ℕ
refusal_number refusal.TooLong = TOO_LONG
refusal_number refusal.BadState = BAD_STATE
refusal_number refusal.PayloadOut = PAYLOAD_OUT

abbrev pub refusal_carries : Refusal → List Carried
refusal_carries refusal.TooLong = []
refusal_carries refusal.BadState = []
refusal_carries refusal.PayloadOut = missing 1 ∷ []

abbrev pub refusal_says : {A : Type 0} → Refusal → Outcome A
refusal_says r = refused (refusal_number r) (refusal_carries r)

-- an answer, with its value as document 01 tells it
abbrev pub says : {A B : Type 0} → (A → B) → Result A Refusal → Outcome B
says told (Ok a) = done (told a)
says told (Err r) = refusal_says r

-- a bin and the next state, and what the contexts become
abbrev pub of_step : Stepped → ℕ × State
of_step r = (r.bin, r.state)

abbrev pub of_bin : {C : Type 0} → Decoded C → ℕ × State × C
of_bin r = (r.bin, r.state, r.contexts)

abbrev pub of_pair : Decoded Pair → ℕ × State × Context × Context
of_pair r = (r.bin, r.state, r.contexts.first, r.contexts.second)

-- bypass and the stuffing bin, one context, two contexts
abbrev pub stepped_says : Result Stepped Refusal → Outcome (ℕ × State)
stepped_says = says of_step

abbrev pub decoded_says : Result (Decoded Context) Refusal → Outcome (ℕ × State × Context)
decoded_says = says of_bin

abbrev pub decoded_pair_says : Result (Decoded Pair) Refusal → Outcome (ℕ × State × Context × Context)
decoded_pair_says = says of_pair
