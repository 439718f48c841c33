-- The laws of one bin, by contexts of which only their test, prediction and update are known, and by two.
use Rattle.std.proofs.Common.{Result, Ok, Err}
use Prim.Native.Nat.{ℕ}
use mathlib.Core.Path.{◌≡◌, refl, sym, ap, ◌∙◌}
use mathlib.Core.List.{List}
use mathlib.Core.Bool.{Bool, ◌&&◌}
use Rattle.answers.specs.Answers.{Carried, Outcome, done, refused, map_done, and_then}
use Rattle.answers.proofs.OutcomeLaws.{not_refused, then_done, stops, goes_on, stops_next}
use Rattle.bits.specs.Bits.{payload}
use Rattle.contexts.specs.Contexts.{good_context, update_of}
use Rattle.contexts.specs.declared.Context.{Context}
use Rattle.aec.specs.Bins.{refused_first, step_of, pair_of, decode_pair_of}
use Rattle.aec.specs.Says.{says, of_bin, decoded_pair_says}
use Rattle.aec.specs.Inside.{guarded_of, bin_by, good_pair, pair_prediction, update_pair}
use Rattle.aec.specs.declared.Decoded.{Decoded}
use Rattle.aec.specs.declared.Pair.{Pair}
use Rattle.aec.specs.Bins.{Guess}
use Rattle.aec.specs.declared.Refusal.{Refusal}
use Rattle.aec.specs.declared.State.{State}

-- ── what was not refused ──

unrefused : {A : Type 0} {n : ℕ} {carried : List Carried} (o : Outcome (Unit {0})) (value : A) → refused n carried ≡ and_then o (λ _. done value) → refused n carried ≡ o
unrefused (done u) value e = not_refused (sym e)
unrefused (refused n carried) value e = ap (λ o. and_then o (λ _. done tt)) e

module _ (bytes : List ℕ) (count : ℕ) (x : State) (contexts : Bool) where
  pub guard_stops : {n : ℕ} {carried : List Carried} → refused n carried ≡ guarded_of bytes count x contexts → refused n carried ≡ refused_first bytes count x contexts
  guard_stops e = unrefused (refused_first bytes count x contexts) (payload bytes count, x) e

  -- the bits and the state are those that were asked with
  pub record Guards (bits : List ℕ) (y : State) : Type 0 where
    pub fine : done tt ≡ refused_first bytes count x contexts
    pub bits_same : bits ≡ payload bytes count
    pub state_same : y ≡ x

  pub guards : (bits : List ℕ) (y : State) → done (bits, y) ≡ guarded_of bytes count x contexts → Guards bits y
  guards bits y e =
      let c = then_done (refused_first bytes count x contexts) _ (bits, y) (sym e) in
      let is : ◌≡◌ {A = List ℕ × State} (payload bytes count, x) (bits, y) = cc c.to in
      record { fine = sym c.from; bits_same = sym (ap (λ p. p.0) is); state_same = sym (ap (λ p. p.1) is) }

-- ── one bin ──

pub step_same : {l m : List ℕ} {x y : State} {g h : Guess} → m ≡ l → y ≡ x → g ≡ h → step_of m y g ≡ step_of l x h
step_same a b c = λ i. step_of (a i) (b i) (c i)

module _ {C : Type 0} (good : C → Bool) (predicts : C → Guess) (update : C → ℕ → C) (bytes : List ℕ) (count : ℕ) (x : State) (c : C) where
  abbrev whole : Outcome (ℕ × State × C)
  whole = bin_by good predicts update bytes count x c

  abbrev stepping : Unit {0} → Outcome (ℕ × State)
  stepping _ = step_of (payload bytes count) x (predicts c)

  abbrev updating : Unit {0} → ℕ × State → Outcome (ℕ × State × C)
  updating _ r = done (r.0, r.1, update c r.0)

  pub first_stops : {n : ℕ} {carried : List Carried} → refused n carried ≡ refused_first bytes count x (good c) → refused n carried ≡ whole
  unfolding bin_by
  first_stops e = stops (λ u. and_then (stepping u) (updating u)) e

  module _ (fine : done tt ≡ refused_first bytes count x (good c)) where
    pub step_stops : {n : ℕ} {carried : List Carried} → refused n carried ≡ step_of (payload bytes count) x (predicts c) → refused n carried ≡ whole
    unfolding bin_by
    step_stops e = stops_next stepping updating fine e

    pub bin_done : (bin : ℕ) (y : State) → done (bin, y) ≡ step_of (payload bytes count) x (predicts c) → done (bin, y, update c bin) ≡ whole
    unfolding bin_by
    bin_done bin y e = goes_on stepping updating fine (bin, y) e

-- ── two contexts, as a pair ──

map_then : {A B C : Type 0} (f : B → C) (o : Outcome A) (next : A → Outcome B) → map_done f (and_then o next) ≡ and_then o (λ a. map_done f (next a))
map_then f (done a) next = refl
map_then f (refused n carried) next = refl

abbrev apart : ℕ × State × Pair → ℕ × State × Context × Context
apart v = (v.0, v.1, v.2.first, v.2.second)

says_apart : (r : Result (Decoded Pair) Refusal) → decoded_pair_says r ≡ map_done apart (says of_bin r)
says_apart (Ok r) = refl
says_apart (Err why) = refl

module _ (bytes : List ℕ) (count : ℕ) (x : State) (a b : Context) where
  abbrev by_pair : Outcome (ℕ × State × Pair)
  by_pair = bin_by good_pair pair_prediction update_pair bytes count x (record { first = a; second = b })

  pair_is : map_done apart by_pair ≡ decode_pair_of bytes count x a b
  unfolding bin_by decode_pair_of
  pair_is =
      let o = refused_first bytes count x (good_context a && good_context b) in
      let s = step_of (payload bytes count) x (pair_of a b) in
      map_then apart o _ ∙ ap (λ t. and_then o (λ _. t)) (map_then apart s (λ r. done (r.0, r.1, record { first = update_of a r.0; second = update_of b r.0 })))

  pub pair_says : (r : Result (Decoded Pair) Refusal) → says of_bin r ≡ by_pair → decoded_pair_says r ≡ decode_pair_of bytes count x a b
  pair_says r e = says_apart r ∙ ap (map_done apart) e ∙ pair_is
