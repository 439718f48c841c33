-- What is proved of the decoder beyond the contracts of its functions.
use Prim.Native.Nat.{ℕ, ◌≤◌, ◌<◌}
use mathlib.Core.Path.{◌≡◌}
use mathlib.Core.Logic.{◌↔◌}
use mathlib.Core.List.{List, []}
use mathlib.Core.Bool.{true, ◌&&◌}
use native.Mathlib.Omega.{arith}
use lib.ListN.{length}
use Rattle.answers.specs.Answers.{done, refused, TOO_LONG, OneToOne}
use Rattle.answers.specs.Limits.{longest_payload}
use Rattle.answers.specs.Missing.{payload_out, SaysMissing}
use Rattle.bits.specs.Bits.{payload}
use Rattle.contexts.specs.Contexts.{good_context, fresh_context}
use Rattle.aec.specs.Bins.{good_state, start_of, bypass_of, stuffing_of, decode_of, decode_pair_of}
use Rattle.aec.specs.Says.{refusal_says, started_says, stepped_says, decoded_says, decoded_pair_says}
use Rattle.aec.specs.Claims.{Leads, Refuses, LacksStart, SameBits}
use Rattle.aec.specs.declared.State.{State}
use Rattle.contexts.specs.declared.Context.{Context}
use Rattle.contexts.proofs.ContextLaws as contexts
use Rattle.aec.proofs.Theorems as proof

-- ── No two answers say the same in document 01's terms ──

pub refusal_one_to_one : {A : Type 0} → OneToOne (refusal_says {A = A})
refusal_one_to_one = proof.refusal_one_to_one

pub started_one_to_one : OneToOne started_says
started_one_to_one = proof.started_one_to_one

pub stepped_one_to_one : OneToOne stepped_says
stepped_one_to_one = proof.stepped_one_to_one

pub decoded_one_to_one : OneToOne decoded_says
decoded_one_to_one = proof.decoded_one_to_one

pub decoded_pair_one_to_one : OneToOne decoded_pair_says
decoded_pair_one_to_one = proof.decoded_pair_one_to_one

-- ── Good leads to good, and the place goes on within the payload ──

pub fresh_good : good_context fresh_context ≡ true
fresh_good = contexts.fresh_good

pub start_good : (bytes : List ℕ) (count : ℕ) (x : State) → start_of bytes count ≡ done x → good_state (length (payload bytes count)) x ≡ true
start_good = proof.start_good

pub bypass_good : (bytes : List ℕ) (count : ℕ) (x : State) (bin : ℕ) (y : State) → bypass_of bytes count x ≡ done (bin, y) → Leads bytes count x bin y
bypass_good bytes count x bin y e = proof.plain_good bytes count x 1023 (bin, y) (omega arith) (omega arith) e

pub stuffing_good : (bytes : List ℕ) (count : ℕ) (x : State) (bin : ℕ) (y : State) → stuffing_of bytes count x ≡ done (bin, y) → Leads bytes count x bin y
stuffing_good bytes count x bin y e = proof.plain_good bytes count x 4 (bin, y) (omega arith) (omega arith) e

pub decode_good : (bytes : List ℕ) (count : ℕ) (x : State) (c : Context) (bin : ℕ) (y : State) (d : Context)
    → decode_of bytes count x c ≡ done (bin, y, d) → (Leads bytes count x bin y) × (good_context d ≡ true)
decode_good bytes count x c bin y d e = proof.decode_good bytes count x c (bin, y, d) e

pub decode_pair_good : (bytes : List ℕ) (count : ℕ) (x : State) (a b : Context) (bin : ℕ) (y : State) (d e : Context)
    → decode_pair_of bytes count x a b ≡ done (bin, y, d, e) → (Leads bytes count x bin y) × (good_context d ≡ true) × (good_context e ≡ true)
decode_pair_good bytes count x a b bin y d e h = proof.decode_pair_good bytes count x a b (bin, y, d, e) h

-- ── The order of refusals: TOO LONG, BAD STATE, and then only PAYLOAD OUT, with one bit missing ──

-- With what leads to good, above: a decoder that goes on from the start with fresh contexts meets no BAD STATE.
pub bypass_refuses : (bytes : List ℕ) (count : ℕ) (x : State) → Refuses bytes count x true (bypass_of bytes count x)
bypass_refuses bytes count x = proof.plain_refuses bytes count x 1023

pub stuffing_refuses : (bytes : List ℕ) (count : ℕ) (x : State) → Refuses bytes count x true (stuffing_of bytes count x)
stuffing_refuses bytes count x = proof.plain_refuses bytes count x 4

pub decode_refuses : (bytes : List ℕ) (count : ℕ) (x : State) (c : Context) → Refuses bytes count x (good_context c) (decode_of bytes count x c)
decode_refuses = proof.decode_refuses

pub decode_pair_refuses : (bytes : List ℕ) (count : ℕ) (x : State) (a b : Context)
    → Refuses bytes count x (good_context a && good_context b) (decode_pair_of bytes count x a b)
decode_pair_refuses = proof.decode_pair_refuses

pub start_long : (bytes : List ℕ) (count : ℕ) → (start_of bytes count ≡ refused TOO_LONG []) ↔ (longest_payload < length bytes)
start_long = proof.start_long

-- PAYLOAD OUT at the start, with m, how many bits are missing: 1 to 9
pub start_out_iff : (bytes : List ℕ) (count m : ℕ) →
    (start_of bytes count ≡ payload_out m) ↔ ((length bytes ≤ longest_payload) × LacksStart (payload bytes count) m)
start_out_iff = proof.start_out

pub start_out_range : (bytes : List ℕ) (count m : ℕ) → start_of bytes count ≡ payload_out m → (1 ≤ m) × (m ≤ 9)
start_out_range = proof.start_range

-- ── PAYLOAD OUT carries how many bits are missing and nothing else, and no other refusal carries anything ──

pub start_missing : (bytes : List ℕ) (count : ℕ) → SaysMissing (start_of bytes count)
start_missing = proof.start_missing

module _ (bytes : List ℕ) (count : ℕ) (x : State) where
  pub bypass_missing : SaysMissing (bypass_of bytes count x)
  bypass_missing = proof.refuses_missing bytes count x _ _ (bypass_refuses bytes count x)

  pub stuffing_missing : SaysMissing (stuffing_of bytes count x)
  stuffing_missing = proof.refuses_missing bytes count x _ _ (stuffing_refuses bytes count x)

  pub decode_missing : (c : Context) → SaysMissing (decode_of bytes count x c)
  decode_missing c = proof.refuses_missing bytes count x _ _ (decode_refuses bytes count x c)

  pub decode_pair_missing : (a b : Context) → SaysMissing (decode_pair_of bytes count x a b)
  decode_pair_missing a b = proof.refuses_missing bytes count x _ _ (decode_pair_refuses bytes count x a b)

-- ── Only the payload's bits count: the filling after them is never read ──

module _ (bytes : List ℕ) (count : ℕ) (others : List ℕ) (number : ℕ) (s : SameBits bytes count others number) where
  pub start_same : start_of bytes count ≡ start_of others number
  start_same = proof.start_same bytes count others number s

  pub bypass_same : (x : State) → bypass_of bytes count x ≡ bypass_of others number x
  bypass_same x = proof.plain_same bytes count others number s x 1023

  pub stuffing_same : (x : State) → stuffing_of bytes count x ≡ stuffing_of others number x
  stuffing_same x = proof.plain_same bytes count others number s x 4

  pub decode_same : (x : State) (c : Context) → decode_of bytes count x c ≡ decode_of others number x c
  decode_same = proof.decode_same bytes count others number s

  pub decode_pair_same : (x : State) (a b : Context) → decode_pair_of bytes count x a b ≡ decode_pair_of others number x a b
  decode_pair_same = proof.decode_pair_same bytes count others number s
