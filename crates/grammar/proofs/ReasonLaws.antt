-- What holds of every reason for which a stream is refused, whatever is lent: it is not FULL, and a bit that it carries is one of a
-- layout's bits.
use Prim.Native.Nat.{ℕ, ◌≤◌, ◌<◌}
use mathlib.Core.Path.{◌≡◌, refl, sym, subst}
use mathlib.Core.Logic.{◌≢◌, ◌⊎◌, inl, inr, ⊎_elim, ◌↔◌}
use mathlib.Core.List.{List, [], ◌∷◌}
use native.Mathlib.Omega.{arith}
use Rattle.answers.specs.Answers.{at_bit, VALUE, FULL}
use Rattle.startcode.specs.declared.Kind.{Kind}
use Rattle.startcode.specs.declared.Kind.TheVariants as kind
use Rattle.layout.specs.declared.Fault.{Fault}
use Rattle.layout.specs.declared.Fault.TheVariants as fault
use Rattle.layout.specs.declared.Layout.TheVariants.{Header}
use Rattle.bodies.specs.Answers.{fault_number, fault_bit}
use Rattle.bodies.specs.declared.Scope.TheVariants as scope
use Rattle.bodies.proofs.BreakLaws.{value_over, fault_apart}
use Rattle.bodies.proofs.PlaceLaws.{BitInside, bitless_inside, layout_inside, display_inside, extension_inside}
use Rattle.grammar.specs.Grammar.{StreamUnit}
use Rattle.grammar.specs.Reasons.{reason_number, reason_bit, BitNumber}
use Rattle.grammar.specs.Refusals.{OfBody, OutOfOrder, order, row, BadHeadExtension, short, twice, fields, other, BreaksBody, unknown, out_of_place, in_place, Stops, unended, cut, overlap, breaks, Refuses, too_long, no_code, in_unit}
use Rattle.grammar.specs.declared.Reason.{Reason}
use Rattle.grammar.specs.declared.Reason.TheVariants as reason

-- the longest layout has 112 bits
abbrev pub BitSmall : Reason → Type 0
BitSmall why = (b : ℕ) → reason_bit why ≡ at_bit b ∷ [] → b < 112

abbrev pub Fair : Reason → Type 0
Fair why = (reason_number why ≢ FULL) × BitSmall why

-- a reason that is a fair one
same : (why r : Reason) → why ≡ r → Fair r → Fair why
same why r e h = subst Fair (sym e) h

-- one that carries no bit
bitless : (why r : Reason) → why ≡ r → reason_number r ≢ FULL → reason_bit r ≡ [] → Fair why
bitless why r e n i = same why r e (n, λ b f. let z : ◌≡◌ {A = ℕ} 0 1 = cc in absurd (omega arith))

fault_fair : (f : Fault) → BitInside f → Fair (reason.Body f)
fault_fair f h = (not_full f, h)
  where
    not_full : (f : Fault) → fault_number f ≢ FULL
    not_full fault.Short e = unfold fault_number in omega arith
    not_full (fault.Marker at) e = unfold fault_number in omega arith
    not_full (fault.Value field at) e = unfold fault_number in let h = value_over field in omega arith
    not_full fault.Stuffing e = unfold fault_number in omega arith

of_body : (Broken : Fault → Type 0) → ((f : Fault) → Broken f → BitInside f) → (why : Reason) → OfBody Broken why → Fair why
of_body Broken inside why b = same why (reason.Body b.0) b.2 (fault_fair b.0 (inside b.0 b.1))

-- a fault that carries no bit
bitless_fault : (f : Fault) (why : Reason) → fault_bit f ≡ [] → why ≡ reason.Body f → Fair why
bitless_fault f why n e = same why (reason.Body f) e (fault_fair f (bitless_inside f f n refl))

short_fair : (why : Reason) → why ≡ reason.Body fault.Short → Fair why
unfolding fault_bit
short_fair why e = bitless_fault fault.Short why refl e

stuffing_fair : (why : Reason) → why ≡ reason.Body fault.Stuffing → Fair why
unfolding fault_bit
stuffing_fair why e = bitless_fault fault.Stuffing why refl e

order_fair : {us : List StreamUnit} {u : StreamUnit} {n : ℕ} {why : Reason} → OutOfOrder us u n why → Fair why
order_fair {why = why} (order g e) = same why reason.SliceOrder e ((λ z. omega arith), λ b f. let i : 0 ≡ b = cc in omega arith)
order_fair {why = why} (row g l e) = same why reason.SliceRow e ((λ z. omega arith), λ b f. let i : 0 ≡ b = cc in omega arith)

head_fair : {extras : List StreamUnit} {u : StreamUnit} {why : Reason} → BadHeadExtension extras u why → Fair why
head_fair {why = why} (short n s e) = short_fair why e
head_fair {why = why} (twice n l o e) = bitless why reason.Twice e (λ z. omega arith) refl
head_fair {u = u} {why = why} (fields n l o b) = of_body _ (display_inside u.body) why b
head_fair {u = u} {why = why} (other n b) = of_body _ (extension_inside scope.Head u.body) why b

body_fair : (k : Kind) (us : List StreamUnit) (u : StreamUnit) (why : Reason) → BreaksBody k us u why → Fair why
body_fair kind.Slice us u why (inl b) = short_fair why b.1
body_fair kind.Slice us u why (inr b) = order_fair b.breaks
body_fair kind.SequenceHeader us u why b = of_body _ (layout_inside Header u.body) why b
body_fair kind.SequenceEnd us u why b = stuffing_fair why b.1
body_fair kind.UserData us u why b = absurd b
body_fair kind.IPicture us u why b = short_fair why b.1
body_fair kind.Extension us u why (inl b) = head_fair b.2
body_fair kind.Extension us u why (inr b) = of_body _ (extension_inside scope.Picture u.body) why b.1
body_fair kind.PBPicture us u why b = short_fair why b.1
body_fair kind.EditCode us u why b = stuffing_fair why b.1

stops_fair : {us : List StreamUnit} {left : List ℕ} {why : Reason} → Stops us left why → Fair why
stops_fair {why = why} (unended e s w) = bitless why reason.Unended w (λ z. omega arith) refl
stops_fair {why = why} (cut e w) = bitless why reason.Cut w (λ z. omega arith) refl
stops_fair {why = why} (overlap r e h w) = bitless why reason.Overlap w (λ z. omega arith) refl
stops_fair {why = why} (breaks u r e a k (unknown x w)) = bitless why reason.Unknown w (λ z. omega arith) refl
stops_fair {why = why} (breaks u r e a k (out_of_place j x p w)) = bitless why reason.OutOfPlace w (λ z. omega arith) refl
stops_fair {us} {why = why} (breaks u r e a k (in_place j x p b)) = body_fair j us u why b

pub refuses_fair : {s : List ℕ} {why : Reason} {at : ℕ} → Refuses s why at → Fair why
refuses_fair {why = why} (too_long l w p) = bitless why reason.TooLong w (λ z. omega arith) refl
refuses_fair {why = why} (no_code l h w p) = bitless why reason.NoCode w (λ z. omega arith) refl
refuses_fair (in_unit l h t) = stops_fair t.stops

-- FULL carries no bit
pub full_fair : (why : Reason) → why ≡ reason.Full → BitSmall why
full_fair why e = subst BitSmall (sym e) (λ b f. let z : ◌≡◌ {A = ℕ} 0 1 = cc in absurd (omega arith))

-- ── which numbers they have ──

pub reason_apart : (why : Reason) → (1 ≤ reason_number why) × (reason_number why ≢ VALUE)
reason_apart reason.NoCode = (omega arith, λ e. omega arith)
reason_apart reason.Cut = (omega arith, λ e. omega arith)
reason_apart reason.Overlap = (omega arith, λ e. omega arith)
reason_apart reason.Unknown = (omega arith, λ e. omega arith)
reason_apart reason.OutOfPlace = (omega arith, λ e. omega arith)
reason_apart (reason.Body f) = fault_apart f
reason_apart reason.SliceOrder = (omega arith, λ e. omega arith)
reason_apart reason.SliceRow = (omega arith, λ e. omega arith)
reason_apart reason.Twice = (omega arith, λ e. omega arith)
reason_apart reason.Unended = (omega arith, λ e. omega arith)
reason_apart reason.Full = (omega arith, λ e. omega arith)
reason_apart reason.TooLong = (omega arith, λ e. omega arith)

-- ── which refusals carry a bit ──

no_bit_lem : {P : Type 0} (why : Reason) → reason_bit why ≡ [] → ((b : ℕ) × (reason_bit why ≡ at_bit b ∷ [])) → P
no_bit_lem why e (b, f) = let z : ◌≡◌ {A = ℕ} 0 1 = cc in absurd (omega arith)

fault_bit_iff : (f : Fault) → ((b : ℕ) × (fault_bit f ≡ at_bit b ∷ [])) ↔ BitNumber (fault_number f)
unfolding fault_bit fault_number
fault_bit_iff fault.Short = ((λ h. no_bit_lem (reason.Body fault.Short) refl h), λ h. absurd (⊎_elim (λ e. omega arith) (λ e. omega arith) h))
fault_bit_iff (fault.Marker at) = ((λ h. inl refl), λ h. (at, refl))
fault_bit_iff (fault.Value field at) = ((λ h. let v = value_over field in inr (v.0, omega (arith, v.1))), λ h. (at, refl))
fault_bit_iff fault.Stuffing = ((λ h. no_bit_lem (reason.Body fault.Stuffing) refl h), λ h. absurd (⊎_elim (λ e. omega arith) (λ e. omega arith) h))

-- a reason without a bit has none of these numbers
without : (why : Reason) → reason_bit why ≡ [] → (BitNumber (reason_number why) → ⊥) → ((b : ℕ) × (reason_bit why ≡ at_bit b ∷ [])) ↔ BitNumber (reason_number why)
without why e n = (no_bit_lem why e, λ h. absurd (n h))

pub bit_iff : (why : Reason) → ((b : ℕ) × (reason_bit why ≡ at_bit b ∷ [])) ↔ BitNumber (reason_number why)
bit_iff reason.NoCode = without reason.NoCode refl (⊎_elim (λ e. omega arith) (λ e. omega arith))
bit_iff reason.Cut = without reason.Cut refl (⊎_elim (λ e. omega arith) (λ e. omega arith))
bit_iff reason.Overlap = without reason.Overlap refl (⊎_elim (λ e. omega arith) (λ e. omega arith))
bit_iff reason.Unknown = without reason.Unknown refl (⊎_elim (λ e. omega arith) (λ e. omega arith))
bit_iff reason.OutOfPlace = without reason.OutOfPlace refl (⊎_elim (λ e. omega arith) (λ e. omega arith))
bit_iff (reason.Body f) = fault_bit_iff f
bit_iff reason.SliceOrder = ((λ h. inr (omega arith, omega arith)), λ h. (0, refl))
bit_iff reason.SliceRow = ((λ h. inr (omega arith, omega arith)), λ h. (0, refl))
bit_iff reason.Twice = without reason.Twice refl (⊎_elim (λ e. omega arith) (λ e. omega arith))
bit_iff reason.Unended = without reason.Unended refl (⊎_elim (λ e. omega arith) (λ e. omega arith))
bit_iff reason.Full = without reason.Full refl (⊎_elim (λ e. omega arith) (λ e. omega arith))
bit_iff reason.TooLong = without reason.TooLong refl (⊎_elim (λ e. omega arith) (λ e. omega arith))

-- a reason carries one bit or none
fault_or_none : (f : Fault) → (fault_bit f ≡ []) ⊎ ((b : ℕ) × (fault_bit f ≡ at_bit b ∷ []))
unfolding fault_bit
fault_or_none fault.Short = inl refl
fault_or_none (fault.Marker at) = inr (at, refl)
fault_or_none (fault.Value field at) = inr (at, refl)
fault_or_none fault.Stuffing = inl refl

pub bit_or_none : (why : Reason) → (reason_bit why ≡ []) ⊎ ((b : ℕ) × (reason_bit why ≡ at_bit b ∷ []))
bit_or_none reason.NoCode = inl refl
bit_or_none reason.Cut = inl refl
bit_or_none reason.Overlap = inl refl
bit_or_none reason.Unknown = inl refl
bit_or_none reason.OutOfPlace = inl refl
bit_or_none (reason.Body f) = fault_or_none f
bit_or_none reason.SliceOrder = inr (0, refl)
bit_or_none reason.SliceRow = inr (0, refl)
bit_or_none reason.Twice = inl refl
bit_or_none reason.Unended = inl refl
bit_or_none reason.Full = inl refl
bit_or_none reason.TooLong = inl refl
