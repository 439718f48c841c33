-- Reading refuses exactly what breaks the layout.
use Rattle.std.proofs.Common.{Ok, Err}
use Prim.Native.Nat.{ℕ, ◌+◌, ◌≤◌, ◌<◌}
use mathlib.Core.Path.{◌≡◌, refl, sym, ap, ◌∙◌, subst}
use mathlib.Core.List.{List, [], ◌∷◌, ◌++◌}
use mathlib.Core.Bool.{Bool, true, false, not}
use mathlib.Core.Option.{Option, none, some}
use native.Mathlib.Omega.{arith}
use borrow.Author.Tests.{eqb-true, eqb-false, eq-eqb, ne_eqb, ltb-true, ltb-false, not-true}
use lib.Dec.{eqb, ltb}
use lib.ListN.{length, take, drop, take-append-drop}
use lib.Seq.{take_at, drop_at}
use Rattle.answers.proofs.ResultLaws.{not_err, err_same}
use Rattle.bits.specs.Bits.{bits_of}
use Rattle.bits.proofs.TestLaws.{by_test, contrary}
use Rattle.bits.proofs.BitLaws.{length_bits}
use Rattle.bits.proofs.ReadLaws.{read_there}
use Rattle.layout.specs.Layouts.{width_of, rule_of, Allowed, Keeps, Wrong, fields, bit_count, least_bytes}
use Rattle.layout.specs.Values.{Ownership, ownership}
use Rattle.layout.specs.Obeys.{Fits, AllAllowed, written}
use Rattle.layout.specs.Breaks.{Holds, FirstWrong, Disowned, unflagged, unowned, BreaksAcross, Breaks, short, wrong, across, ended}
use Rattle.layout.specs.Reader.{Verdict, allows, ruled, Reading, ◌>>◌, refuse_if, both, values_of, judge, owner_rules, owned_by, cross, judged, stuffing, reading}
use Rattle.answers.specs.Results.{◌>>=◌}
use Rattle.layout.specs.Reader as reader
use Rattle.layout.specs.declared.JudgedField.TheVariants.{CopyrightOwner, CopyrightNumber}
use Rattle.layout.specs.declared.Values.{Values}
use Rattle.layout.specs.declared.Rule.{Rule}
use Rattle.layout.specs.declared.Rule.TheVariants as rule
use Rattle.layout.specs.declared.Field.{Field}
use Rattle.layout.specs.declared.Layout.{Layout}
use Rattle.layout.specs.declared.Layout.TheVariants.{Header, Display, Coloured, Copyright}
use Rattle.layout.specs.declared.Fault.{Fault}
use Rattle.layout.specs.declared.Fault.TheVariants as fault
use Rattle.layout.proofs.LayoutLaws.{table, fits_length, spelled, owner_begins, number_begins, owner_at, number_at}
use Rattle.layout.proofs.ReadingLaws.{values_first}
use Rattle.layout.proofs.JudgeLaws.{checked, reading_short, reading_long}
use Rattle.layout.proofs.OwnerLaws.{unowned_rules, owned_rules}
use Rattle.layout.proofs.ObeyLaws.{fine_then, both_fine, read_written, written_read, written_length, allowed_if, if_allowed, kept_if, if_kept, judge_fine, fine_judge, cross_fine, fine_cross, stuffing_is, is_stuffing}

-- ── a body that is long enough has all its values ──

values_there : (l : List ℕ) (fs : List Field) (at : ℕ) → at + bit_count fs ≤ length l → (vs : List ℕ) × (values_of fs at l ≡ Ok vs)
values_there l [] at h = ([], unfold values_of in refl)
values_there l (f ∷ fs) at h =
    let v = read_there l at (width_of f) (omega arith) in
    let vs = values_there l fs (at + width_of f) (omega arith) in
    (v.0 ∷ vs.0, values_first (f ∷ fs) fs f at v.0 l refl v.1 ∙ ap (λ (r : Reading (List ℕ)). r >>= (λ us. Ok (v.0 ∷ us))) vs.1)

-- what a body holds is what is read of it
pub held_read : (layout : Layout) (body vs end : List ℕ) → Holds layout body vs end → values_of (fields layout) 0 (bits_of body) ≡ Ok vs
held_read layout body vs end h =
    let len = written_length (fields layout) vs h.fits in
    written_read body (fields layout) 0 vs h.fits (ap (take (bit_count (fields layout))) h.bits ∙ take_at (written (fields layout) vs) end _ len)

held_end : (layout : Layout) (body vs end : List ℕ) → Holds layout body vs end → drop (bit_count (fields layout)) (bits_of body) ≡ end
held_end layout body vs end h = ap (drop (bit_count (fields layout))) h.bits ∙ drop_at (written (fields layout) vs) end _ (written_length (fields layout) vs h.fits)

-- a body that is long enough holds some values
pub holds : (layout : Layout) (body : List ℕ) → least_bytes layout ≤ length body → (vs : List ℕ) × Holds layout body vs (drop (bit_count (fields layout)) (bits_of body))
holds layout body h =
    let t = table layout in
    let l = length_bits body in
    let r = values_there (bits_of body) (fields layout) 0 (omega (arith, t.whole)) in
    let w = read_written body (fields layout) 0 r.0 r.1 in
    (r.0, record { long = h; fits = w.0; bits = sym (take-append-drop (bit_count (fields layout)) (bits_of body)) ∙ ap (λ (l : List ℕ). l ++ drop (bit_count (fields layout)) (bits_of body)) w.1 })

-- so reading it is judging them
pub held_reading : (layout : Layout) (body vs end : List ℕ) → Holds layout body vs end → reading layout body ≡ (judged layout vs >> (reader.ended layout body >> Ok vs))
held_reading layout body vs end h = reading_long layout body h.long ∙ ap (checked layout body) (held_read layout body vs end h)

-- ── verdicts ──

then_bad : {A : Type 0} (v : Verdict) (r : Reading A) (why : Fault) → v ≡ Err why → (v >> r) ≡ Err why
then_bad v r why e = rw e

if_same : (t : Bool) (a why : Fault) → refuse_if t a ≡ Err why → (t ≡ true) × (why ≡ a)
if_same true a why e = (refl, sym (err_same e))
if_same false a why e = let z : ◌≡◌ {A = ℕ} 0 1 = cc in absurd (omega arith)

both_split : {P : Type 0} (v w : Verdict) (why : Fault) → both v w ≡ Err why → (v ≡ Err why → P) → (v ≡ Ok tt → w ≡ Err why → P) → P
both_split (Ok tt) w why e f g = g refl e
both_split (Err a) w why e f g = f e

-- ── a rule that is broken ──

wrong_if : (r : Rule) (v at : ℕ) (why : Fault) → ruled r v at ≡ Err why → Wrong r v at why
unfolding ruled
wrong_if rule.Any v at why e = let z : ◌≡◌ {A = ℕ} 0 1 = cc in absurd (omega arith)
wrong_if rule.Set v at why e = let r = if_same (not (eqb v 1)) (fault.Marker at) why e in (eqb-false v 1 (not-true _ r.0), r.1)
wrong_if (rule.Judged field values) v at why e =
    let r = if_same (not (allows values v)) (fault.Value field at) why e in
    ((λ a. contrary (allows values v) (if_allowed values v a) (not-true _ r.0)), r.1)

not_allowed : (values : Values) (v : ℕ) → (Allowed values v → ⊥) → allows values v ≡ false
not_allowed values v n = by_test (allows values v) (λ t. absurd (n (allowed_if values v t))) (λ e. e)

if_wrong : (r : Rule) (v at : ℕ) (why : Fault) → Wrong r v at why → ruled r v at ≡ Err why
unfolding ruled
if_wrong rule.Any v at why h = absurd h
if_wrong rule.Set v at why h = ap (λ (t : Bool). refuse_if (not t) (fault.Marker at)) (ne_eqb v 1 h.0) ∙ ap Err (sym h.1)
if_wrong (rule.Judged field values) v at why h = ap (λ (t : Bool). refuse_if (not t) (fault.Value field at)) (not_allowed values v h.0) ∙ ap Err (sym h.1)

-- the same at a bit that is written otherwise
wrong_at : (r : Rule) (v : ℕ) (why : Fault) {a b : ℕ} → a ≡ b → Wrong r v a why → Wrong r v b why
wrong_at r v why e h = subst (λ (k : ℕ). Wrong r v k why) e h

-- ── the first field whose rule is broken ──

-- one more field before it
one_more : (f : Field) (fs : List Field) (at v : ℕ) (vs : List ℕ) (why : Fault) → Keeps (rule_of f) v → FirstWrong fs (at + width_of f) vs why → FirstWrong (f ∷ fs) at (v ∷ vs) why
unfolding AllAllowed
one_more f fs at v vs why a w =
    record {
      before = f ∷ w.before;
      field = w.field;
      after = w.after;
      earlier = v ∷ w.earlier;
      value = w.value;
      later = w.later;
      all_fields = ap (λ (l : List Field). f ∷ l) w.all_fields;
      all_values = ap (λ (l : List ℕ). v ∷ l) w.all_values;
      allowed = (a, w.allowed);
      broken = wrong_at (rule_of w.field) w.value why (let e : at + width_of f + bit_count w.before ≡ at + (width_of f + bit_count w.before) = omega arith in e) w.broken;
    }

here : (f : Field) (fs : List Field) (at v : ℕ) (vs : List ℕ) (why : Fault) → Wrong (rule_of f) v at why → FirstWrong (f ∷ fs) at (v ∷ vs) why
unfolding AllAllowed
here f fs at v vs why h =
    record {
      before = [];
      field = f;
      after = fs;
      earlier = [];
      value = v;
      later = vs;
      all_fields = refl;
      all_values = refl;
      allowed = tt;
      broken = wrong_at (rule_of f) v why (let e : at ≡ at + 0 = omega arith in e) h;
    }

judge_first : (fs : List Field) (at : ℕ) (vs : List ℕ) (why : Fault) → Fits fs vs → judge fs at vs ≡ Err why → FirstWrong fs at vs why
unfolding judge Fits
judge_first [] at [] why h e = let z : ◌≡◌ {A = ℕ} 0 1 = cc in absurd (omega arith)
judge_first [] at (v ∷ vs) why h e = absurd h
judge_first (f ∷ fs) at [] why h e = absurd h
judge_first (f ∷ fs) at (v ∷ vs) why h e =
    both_split (ruled (rule_of f) v at) (judge fs (at + width_of f) vs) why e
    (λ b. here f fs at v vs why (wrong_if (rule_of f) v at why b))
    (λ k j. one_more f fs at v vs why (kept_if (rule_of f) v at k) (judge_first fs (at + width_of f) vs why h.1 j))

first_judge : (before : List Field) (field : Field) (after : List Field) (at : ℕ) (earlier : List ℕ) (value : ℕ) (later : List ℕ) (why : Fault) →
    AllAllowed before earlier → Wrong (rule_of field) value (at + bit_count before) why → judge (before ++ (field ∷ after)) at (earlier ++ (value ∷ later)) ≡ Err why
unfolding judge AllAllowed
first_judge [] field after at [] value later why h n =
    let e : at + 0 ≡ at = omega arith in
    ap (λ (x : Verdict). both x (judge after (at + width_of field) later)) (if_wrong (rule_of field) value at why (wrong_at (rule_of field) value why e n))
first_judge [] field after at (v ∷ vs) value later why h n = absurd h
first_judge (f ∷ fs) field after at [] value later why h n = absurd h
first_judge (f ∷ fs) field after at (v ∷ vs) value later why h n =
    let e : at + (width_of f + bit_count fs) ≡ at + width_of f + bit_count fs = omega arith in
    ap (λ (x : Verdict). both x (judge (fs ++ (field ∷ after)) (at + width_of f) (vs ++ (value ∷ later)))) (if_kept (rule_of f) v at h.0)
    ∙ first_judge fs field after (at + width_of f) vs value later why h.1 (wrong_at (rule_of field) value why e n)

wrong_judge : (fs : List Field) (at : ℕ) (vs : List ℕ) (why : Fault) → FirstWrong fs at vs why → judge fs at vs ≡ Err why
wrong_judge fs at vs why w =
    ap (λ (l : List Field). judge l at vs) w.all_fields
    ∙ ap (judge (w.before ++ (w.field ∷ w.after)) at) w.all_values
    ∙ first_judge w.before w.field w.after at w.earlier w.value w.later why w.allowed w.broken

-- ── the rules across fields ──

disowned : (c : Ownership) (why : Fault) → owner_rules c ≡ Err why → Disowned c why
disowned c why e =
    by_test (eqb c.owner 0)
    (λ t.
    let o = eqb-true c.owner 0 t in
    let r = if_same (not (eqb c.number 0)) (fault.Value CopyrightNumber 22) why (sym (unowned_rules c o refl) ∙ e) in
    unowned o (eqb-false c.number 0 (not-true _ r.0)) 22 number_begins r.1)
    (λ n.
    let o = eqb-false c.owner 0 n in
    let r = if_same (eqb c.flag 0) (fault.Value CopyrightOwner 5) why (sym (owned_rules c o refl) ∙ e) in
    unflagged (eqb-true c.flag 0 r.0) o 5 owner_begins r.1)

disowned_rules : (c : Ownership) (why : Fault) → Disowned c why → owner_rules c ≡ Err why
disowned_rules c why (unflagged f o at b e) = owned_rules c o (eq-eqb c.flag 0 f) ∙ ap (λ (k : ℕ). Err (fault.Value CopyrightOwner k)) (sym (owner_at at b)) ∙ ap Err (sym e)
disowned_rules c why (unowned o n at b e) = unowned_rules c o (ne_eqb c.number 0 n) ∙ ap (λ (k : ℕ). Err (fault.Value CopyrightNumber k)) (sym (number_at at b)) ∙ ap Err (sym e)

-- the record is there, since there are as many values as fields
across_record : (vs : List ℕ) (o : Option Ownership) (why : Fault) → ownership vs ≡ o → owned_by o ≡ Err why → (ownership vs ≡ none → ⊥) →
    (c : Ownership) × (ownership vs ≡ some c) × Disowned c why
across_record vs none why e f n = absurd (n e)
across_record vs (some c) why e f n = (c, e, disowned c why f)

record_there : (vs : List ℕ) → length vs ≡ 11 → ownership vs ≡ none → ⊥
unfolding ownership
record_there vs h e = let z : ◌≡◌ {A = ℕ} 0 1 = cc (sym (ap ownership (spelled 11 vs h)) ∙ e) in omega arith

cross_broken : (layout : Layout) (vs : List ℕ) (why : Fault) → Fits (fields layout) vs → cross layout vs ≡ Err why → BreaksAcross layout vs why
unfolding cross BreaksAcross fields
cross_broken Header vs why h e = let z : ◌≡◌ {A = ℕ} 0 1 = cc in omega arith
cross_broken Display vs why h e = let z : ◌≡◌ {A = ℕ} 0 1 = cc in omega arith
cross_broken Coloured vs why h e = let z : ◌≡◌ {A = ℕ} 0 1 = cc in omega arith
cross_broken Copyright vs why h e = across_record vs (ownership vs) why refl e (record_there vs (fits_length (fields Copyright) vs h))

broken_cross : (layout : Layout) (vs : List ℕ) (why : Fault) → BreaksAcross layout vs why → cross layout vs ≡ Err why
unfolding cross BreaksAcross
broken_cross Header vs why h = absurd h
broken_cross Display vs why h = absurd h
broken_cross Coloured vs why h = absurd h
broken_cross Copyright vs why h = ap owned_by h.1 ∙ disowned_rules h.0 why h.2

-- ── the whole ──

then_split : {A P : Type 0} (v : Verdict) (r : Reading A) (why : Fault) → (v >> r) ≡ Err why → (v ≡ Err why → P) → (v ≡ Ok tt → r ≡ Err why → P) → P
then_split (Ok tt) r why e f g = g refl e
then_split {A} (Err a) r why e f g = f (ap Err (err_same {A = A} e))

pub breaks_if : (layout : Layout) (body : List ℕ) (why : Fault) → reading layout body ≡ Err why → Breaks layout body why
unfolding judged reader.ended
breaks_if layout body why e =
    by_test (ltb (length body) (least_bytes layout))
    (λ t. let h = ltb-true (length body) (least_bytes layout) t in short h (err_same {A = List ℕ} (sym e ∙ reading_short layout body h)))
    (λ n.
    let h = holds layout body (ltb-false (length body) (least_bytes layout) n) in
    let vs = h.0 in
    let end = drop (bit_count (fields layout)) (bits_of body) in
    let first = judge (fields layout) 0 vs in
    let fine : first ≡ Ok tt → AllAllowed (fields layout) vs = judge_fine (fields layout) 0 vs h.1.fits in
    then_split (judged layout vs) _ why (sym (held_reading layout body vs end h.1) ∙ e)
    (λ f.
    both_split first (cross layout vs) why f
    (λ j. wrong vs end h.1 (judge_first (fields layout) 0 vs why h.1.fits j))
    (λ j x. across vs end h.1 (fine j) (cross_broken layout vs why h.1.fits x)))
    (λ f r.
    then_split (reader.ended layout body) (Ok vs) why r
    (λ s.
    let p = both_fine first (cross layout vs) f in
    let q = if_same (not (stuffing end)) fault.Stuffing why s in
    ended vs end h.1 (fine p.0) (cross_fine layout vs p.1) (λ zeros z. contrary (stuffing end) (is_stuffing end zeros z) (not-true (stuffing end) q.0)) q.1)
    (λ s g. not_err g)))

pub if_breaks : (layout : Layout) (body : List ℕ) (why : Fault) → Breaks layout body why → reading layout body ≡ Err why
unfolding judged reader.ended
if_breaks layout body why (short h e) = reading_short layout body h ∙ ap Err (sym e)
if_breaks layout body why (wrong vs end h w) =
    held_reading layout body vs end h ∙ then_bad (judged layout vs) _ why (ap (λ (v : Verdict). both v (cross layout vs)) (wrong_judge (fields layout) 0 vs why w))
if_breaks layout body why (across vs end h a x) =
    held_reading layout body vs end h
    ∙ then_bad (judged layout vs) _ why (ap (λ (v : Verdict). both v (cross layout vs)) (fine_judge (fields layout) 0 vs a) ∙ broken_cross layout vs why x)
if_breaks layout body why (ended vs end h a x n e) =
    let s : stuffing (drop (bit_count (fields layout)) (bits_of body)) ≡ false =
    ap stuffing (held_end layout body vs end h) ∙ by_test (stuffing end) (λ t. let z = stuffing_is end t in absurd (n z.0 z.1)) (λ f. f) in
    held_reading layout body vs end h
    ∙ fine_then (judged layout vs) _ (ap (λ (v : Verdict). both v (cross layout vs)) (fine_judge (fields layout) 0 vs a) ∙ fine_cross layout vs x)
    ∙ then_bad (reader.ended layout body) (Ok vs) why (ap (λ (t : Bool). refuse_if (not t) fault.Stuffing) s ∙ ap Err (sym e))

-- ── SHORT ──

rule_not_short : (r : Rule) (v at : ℕ) → Wrong r v at fault.Short → ⊥
rule_not_short rule.Any v at h = h
rule_not_short rule.Set v at (n, e) = let z : ◌≡◌ {A = ℕ} 0 1 = cc in omega arith
rule_not_short (rule.Judged field values) v at (n, e) = let z : ◌≡◌ {A = ℕ} 0 1 = cc in omega arith

disowned_not_short : (c : Ownership) → Disowned c fault.Short → ⊥
disowned_not_short c (unflagged f o at b e) = let z : ◌≡◌ {A = ℕ} 0 1 = cc in omega arith
disowned_not_short c (unowned o n at b e) = let z : ◌≡◌ {A = ℕ} 0 1 = cc in omega arith

across_not_short : (layout : Layout) (vs : List ℕ) → BreaksAcross layout vs fault.Short → ⊥
unfolding BreaksAcross
across_not_short Header vs h = h
across_not_short Display vs h = h
across_not_short Coloured vs h = h
across_not_short Copyright vs h = disowned_not_short h.0 h.2

pub short_breaks : (layout : Layout) (body : List ℕ) → Breaks layout body fault.Short → length body < least_bytes layout
short_breaks layout body (short h e) = h
short_breaks layout body (wrong vs end h w) = absurd (rule_not_short (rule_of w.field) w.value (0 + bit_count w.before) w.broken)
short_breaks layout body (across vs end h a x) = absurd (across_not_short layout vs x)
short_breaks layout body (ended vs end h a x n e) = let z : ◌≡◌ {A = ℕ} 0 1 = cc in absurd (omega arith)

-- nothing but its length makes a body SHORT
pub short_if : (layout : Layout) (body : List ℕ) → reading layout body ≡ Err fault.Short → length body < least_bytes layout
short_if layout body e = short_breaks layout body (breaks_if layout body fault.Short e)
