-- The laws of a state's ranges: the test that held, and the facts that it holds for.
use Prim.Native.Nat.{ℕ, ◌≤◌}
use mathlib.Core.Path.{◌≡◌}
use mathlib.Core.List.{List}
use mathlib.Core.Bool.{true, false}
use native.Mathlib.Omega.{arith}
use borrow.Author.Tests.{le-leb, leb-true}
use lib.ListN.{length}
use Rattle.answers.specs.Limits.{longest_payload, most_bits}
use Rattle.bits.specs.Bits.{payload}
use Rattle.bits.proofs.BitLaws.{length_payload}
use Rattle.std.proofs.lemmas.Bool.{and_parts}
use Rattle.bits.proofs.TestLaws.{not_held}
use Rattle.aec.specs.Bins.{good_state}
use Rattle.aec.specs.declared.State.{State}

-- ── a state ──

pub record StateRanges (end : ℕ) (x : State) : Type 0 where
  pub rs : x.rs ≤ x.vs
  pub vs : x.vs ≤ most_bits
  pub rt : x.rt ≤ 255
  pub vt : x.vt ≤ 255
  pub place : x.place ≤ end

pub state_ranges : (end : ℕ) (x : State) → good_state end x ≡ true → StateRanges end x
unfolding good_state
state_ranges end x e =
    let a = and_parts _ _ e in
    let b = and_parts _ _ a.0 in
    let c = and_parts _ _ b.0 in
    let d = and_parts _ _ c.0 in
    record { rs = leb-true _ _ d.0; vs = leb-true _ _ d.1; rt = leb-true _ _ c.1; vt = leb-true _ _ b.1; place = leb-true _ _ a.1 }

pub ranges_state : (end : ℕ) (x : State) → StateRanges end x → true ≡ good_state end x
unfolding good_state
ranges_state end x r = simp (le-leb _ _ r.rs, le-leb _ _ r.vs, le-leb _ _ r.rt, le-leb _ _ r.vt, le-leb _ _ r.place)

pub bad_state : (end : ℕ) (x : State) → (StateRanges end x → ⊥) → false ≡ good_state end x
bad_state end x h = not_held (good_state end x) (state_ranges end x) h

-- ── the payload ──

pub payload_bound : (bytes : List ℕ) (count : ℕ) → length bytes ≤ longest_payload → length (payload bytes count) ≤ most_bits
payload_bound bytes count h = omega (arith, length_payload bytes count)
