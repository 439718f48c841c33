-- The laws of answers: done or refused and not both; what one that is done goes back to; what is one-to-one.
use Prim.Native.Nat.{ℕ}
use mathlib.Core.Path.{◌≡◌, refl, sym, ap, ◌∙◌}
use mathlib.Core.List.{List}
use native.Mathlib.Omega.{arith}
use Rattle.answers.specs.Answers.{Carried, Outcome, done, refused, map_done, and_then, OneToOne}
use Rattle.answers.specs.Missing.{payload_out, SaysMissing, says_done, says_none, says_out}

pub not_done : {P A : Type 0} {n : ℕ} {carried : List Carried} {a : A} → refused n carried ≡ done a → P
not_done e = let z : ◌≡◌ {A = ℕ} 0 1 = cc in absurd (omega arith)

pub not_refused : {P A : Type 0} {n : ℕ} {carried : List Carried} {a : A} → done a ≡ refused n carried → P
not_refused e = let z : ◌≡◌ {A = ℕ} 0 1 = cc in absurd (omega arith)

pub done_one : {A : Type 0} {a b : A} → done a ≡ done b → a ≡ b
done_one e = cc

pub other_number : {P A : Type 0} {m n : ℕ} {carried more : List Carried} → ◌≡◌ {A = Outcome A} (refused m carried) (refused n more) → (m ≡ n → ⊥) → P
other_number e h = absurd (h cc)

pub carried_same : {A : Type 0} {n : ℕ} {carried more : List Carried} → ◌≡◌ {A = Outcome A} (refused n carried) (refused n more) → carried ≡ more
carried_same e = cc

-- PAYLOAD OUT says how many bits were missing
pub out_same : {A : Type 0} {m n : ℕ} → ◌≡◌ {A = Outcome A} (payload_out m) (payload_out n) → m ≡ n
out_same e = cc

-- another value for one that is done leaves what is said of missing bits
pub says_mapped : {A B : Type 0} (f : A → B) {o : Outcome A} → SaysMissing o → SaysMissing (map_done f o)
says_mapped f (says_done a) = says_done (f a)
says_mapped f (says_none n h) = says_none n h
says_mapped f (says_out m h) = says_out m h

-- ── one step after another ──

pub goes : {A B : Type 0} {value : A} {o : Outcome A} (next : A → Outcome B) → done value ≡ o → next value ≡ and_then o next
goes next e = ap (λ o. and_then o next) e

pub stops : {A B : Type 0} {n : ℕ} {carried : List Carried} {o : Outcome A} (next : A → Outcome B) → refused n carried ≡ o → refused n carried ≡ and_then o next
stops next e = ap (λ o. and_then o next) e

-- two steps, one after the other, of which the first is done
module _ {A B C : Type 0} {o : Outcome A} (first : A → Outcome B) (next : A → B → Outcome C) {value : A} (e : done value ≡ o) where
  pub goes_on : (w : B) → done w ≡ first value → next value w ≡ and_then o (λ a. and_then (first a) (next a))
  goes_on w f = goes (next value) f ∙ goes (λ a. and_then (first a) (next a)) e

  pub stops_next : {n : ℕ} {carried : List Carried} → refused n carried ≡ first value → refused n carried ≡ and_then o (λ a. and_then (first a) (next a))
  stops_next f = stops (next value) f ∙ goes (λ a. and_then (first a) (next a)) e

-- two steps that are done: the value between them
pub record ThenDone {A B : Type 0} (o : Outcome A) (next : A → Outcome B) (w : B) : Type 0 where
  pub value : A
  pub from : o ≡ done value
  pub to : next value ≡ done w

pub then_done : {A B : Type 0} (o : Outcome A) (next : A → Outcome B) (w : B) → and_then o next ≡ done w → ThenDone o next w
then_done (done value) next w e = record { value = value; from = refl; to = e }
then_done (refused n carried) next w e = not_done e

-- another value that is done: the value that it is of
pub map_done_lem : {A B : Type 0} (f : A → B) (o : Outcome A) (b : B) → map_done f o ≡ done b → (a : A) × (o ≡ done a) × (f a ≡ b)
map_done_lem f (done a) b e = (a, refl, done_one e)
map_done_lem f (refused n carried) b e = not_done e

-- ── one-to-one ──

-- a map that can be undone is one-to-one
pub undone : {A B : Type 0} (says : A → B) (undo : B → A) → ((a : A) → undo (says a) ≡ a) → OneToOne says
undone says undo is a b e = sym (is a) ∙ ap undo e ∙ is b

-- ── an answer of one arm ──

-- it is that of what was asked, since the arm's value is what was asked for and says so
pub arm_answers : {A B C : Type 0} (answer : B → C) (says : A → B) {x v : A} {o : B} {r : C} → x ≡ v → says x ≡ o → r ≡ answer (says v) → r ≡ answer o
arm_answers answer says e s h = h ∙ ap (λ x. answer (says x)) (sym e) ∙ ap answer s
