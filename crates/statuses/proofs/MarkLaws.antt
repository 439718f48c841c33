-- The mark of no bit stands exactly where an answer has none, and is no bit.
use Rattle.std.proofs.Common.{Ok, Err}
use Prim.Native.Nat.{ℕ}
use mathlib.Core.Path.{◌≡◌, refl, sym, ap, ◌∙◌, subst}
use mathlib.Core.Logic.{⊎_elim}
use mathlib.Core.List.{List, []}
use native.Mathlib.Omega.{arith}
use Rattle.answers.specs.Answers.{Carried, done, refused, map_done}
use Rattle.layout.specs.declared.Fault.{Fault}
use Rattle.bodies.specs.Answers.{fault_number, fault_bit}
use Rattle.bodies.proofs.PlaceLaws.{BitInside}
use Rattle.grammar.specs.Rows.{Placed}
use Rattle.grammar.specs.Reader.{Stopped, Walk, said}
use Rattle.grammar.specs.Reasons.{reason_number, reason_bit, carries, BitNumber, ByNumber}
use Rattle.grammar.specs.Refusals.{Refuses}
use Rattle.grammar.specs.declared.Reason.{Reason}
use Rattle.grammar.specs.declared.Reason.TheVariants as reason
use Rattle.grammar.proofs.ReasonLaws.{BitSmall, refuses_fair, bit_iff, bit_or_none}
use Rattle.statuses.specs.Answers.{bit_in, counted, BitMarked}

-- what is handed over, and a refusal that carries nothing
pub marked_done : (n : ℕ) → BitMarked (counted (done n))
marked_done n = record { given = λ h. absurd (⊎_elim (λ e. omega arith) (λ e. omega arith) h); none = λ h. refl }

pub marked_none : (n : ℕ) → (BitNumber n → ⊥) → BitMarked (counted (refused n []))
marked_none n k = record { given = λ h. absurd (k h); none = λ h. refl }

-- a refusal for a reason whose bit is small
pub marked_reason : (why : Reason) (carried : List Carried) → BitSmall why → bit_in carried ≡ bit_in (reason_bit why) → BitMarked (counted (refused (reason_number why) carried))
marked_reason why carried small same = record {
  given = λ h. let (b, e) = (bit_iff why).1 h in let i : bit_in carried ≡ b = same ∙ ap bit_in e in let l = small b e in (omega arith, λ m. omega arith);
  none = λ h. ⊎_elim (λ e. same ∙ ap bit_in e) (λ x. absurd (h ((bit_iff why).0 x))) (bit_or_none why);
}

pub marked_stream : (s : List ℕ) (n : ℕ) (carried : List Carried) → ByNumber (Refuses s) n carried → BitMarked (counted (refused n carried))
marked_stream s n carried (why, at, h, e, c) =
    subst (λ (m : ℕ). BitMarked (counted (refused m carried))) (sym e) (marked_reason why carried (refuses_fair h).1 (ap bit_in c))

pub marked_fault : (why : Fault) (n : ℕ) (carried : List Carried) → BitInside why → n ≡ fault_number why → carried ≡ fault_bit why → BitMarked (counted (refused n carried))
marked_fault why n carried h e c = subst (λ (m : ℕ). BitMarked (counted (refused m carried))) (sym e) (marked_reason (reason.Body why) carried h (ap bit_in c))

-- what is said of a walk
pub marked_walk : {A : Type 0} (view : List Placed → A) (count : A → ℕ) (w : Walk) → ((x : Stopped) → w ≡ Err x → BitSmall x.reason) → BitMarked (counted (map_done count (said view w)))
marked_walk view count (Ok ms) small = marked_done (count (view ms))
marked_walk view count (Err x) small = marked_reason x.reason (carries x.reason x.offset) (small x refl) refl
