-- Reading gives values exactly where the body obeys its layout with them.
use Rattle.std.proofs.Common.{Ok, Err}
use Prim.Native.Nat.{ℕ, ◌+◌, ◌*◌, ◌^◌, ◌<◌}
use mathlib.Core.Path.{◌≡◌, refl, sym, ap, ◌∙◌, subst}
use mathlib.Core.Logic.{◌↔◌}
use mathlib.Core.List.{List, [], ◌∷◌, ◌++◌}
use mathlib.Core.Bool.{Bool, true, false, ◌&&◌, not}
use mathlib.Core.Option.{Option, none, some}
use native.Mathlib.Omega.{arith}
use borrow.Author.Tests.{eqb-true, eqb-false, eq-eqb, ne_eqb, leb-true, le-leb, ltb-false, not-true, not-false}
use lib.Dec.{eqb, leb}
use lib.ListN.{length, take, drop, replicate, length-append, take-append-drop}
use lib.Seq.{take_all, take_at, drop_at, take-add, take-take, drop-drop}
use Rattle.answers.proofs.ResultLaws.{not_ok, ok_same, bind_ok}
use Rattle.bits.specs.Bits.{bits_in, bits_of, payload, read_at}
use Rattle.bits.proofs.ListLaws.{drop_take}
use Rattle.std.proofs.lemmas.Bool.{and_parts}
use Rattle.bits.proofs.TestLaws.{by_test}
use Rattle.bits.proofs.BitLaws.{length_in, length_bits}
use Rattle.bits.proofs.Main.{read_exactly}
use Rattle.layout.specs.Layouts.{width_of, rule_of, Allowed, Keeps, fields, bit_count}
use Rattle.layout.specs.Values.{Ownership, ownership}
use Rattle.layout.specs.Obeys.{Fits, AllAllowed, Owned, Crossed, written, Obeys}
use Rattle.layout.specs.Reader.{Verdict, allows, ruled, Reading, ◌>>◌, refuse_if, both, read_value, short, values_of, judge, owner_rules, owned_by, cross, judged, all_zero, stuffing, ended, reading}
use Rattle.answers.specs.Results.{◌>>=◌}
use Rattle.layout.specs.declared.Values.{Values}
use Rattle.layout.specs.declared.Values.TheVariants.{Only, But, Within, WithinBut}
use Rattle.layout.specs.declared.Rule.{Rule}
use Rattle.layout.specs.declared.Rule.TheVariants as rule
use Rattle.layout.specs.declared.JudgedField.TheVariants.{CopyrightOwner}
use Rattle.layout.specs.declared.Field.{Field}
use Rattle.layout.specs.declared.Layout.{Layout}
use Rattle.layout.specs.declared.Layout.TheVariants.{Header, Display, Coloured, Copyright}
use Rattle.layout.specs.declared.Fault.{Fault}
use Rattle.layout.specs.declared.Fault.TheVariants as fault
use Rattle.layout.proofs.ReadingLaws.{value_good, values_first}
use Rattle.layout.proofs.EndLaws.{zeros_are, are_zeros}
use Rattle.layout.proofs.JudgeLaws.{reading_long}

-- ── results ──

pub then_good : {A : Type 0} (v : Verdict) (r : Reading A) (a : A) → (v >> r) ≡ Ok a → (v ≡ Ok tt) × (r ≡ Ok a)
then_good (Ok tt) r a e = (refl, e)
then_good (Err why) r a e = not_ok e

pub fine_then : {A : Type 0} (v : Verdict) (r : Reading A) → v ≡ Ok tt → (v >> r) ≡ r
fine_then v r e = rw e

pub both_fine : (v w : Verdict) → both v w ≡ Ok tt → (v ≡ Ok tt) × (w ≡ Ok tt)
both_fine (Ok tt) w e = (refl, e)
both_fine (Err why) w e = let z : ◌≡◌ {A = ℕ} 0 1 = cc in absurd (omega arith)

fine_both : (v w : Verdict) → v ≡ Ok tt → w ≡ Ok tt → both v w ≡ Ok tt
fine_both v w e f = rw (e, f)

if_fine : (t : Bool) (why : Fault) → refuse_if t why ≡ Ok tt → t ≡ false
if_fine true why e = let z : ◌≡◌ {A = ℕ} 0 1 = cc in absurd (omega arith)
if_fine false why e = refl

fine_if : (t : Bool) (why : Fault) → t ≡ false → refuse_if t why ≡ Ok tt
fine_if t why e = rw e

-- ── values are read exactly where their bits stand ──

-- the fact of every width, of a body's bits
abbrev pub Stands : List ℕ → ℕ → ℕ → ℕ → Type 0
Stands l at w n = (read_at l at w ≡ Ok n) ↔ ((n < 2 ^ w) × (take w (drop at l) ≡ bits_in w n))

pub stands : (body : List ℕ) (at w n : ℕ) → Stands (bits_of body) at w n
stands body at w n =
    let all : payload body (length body * 8) ≡ bits_of body = take_all (length body * 8) (bits_of body) (let l = length_bits body in omega arith) in
    subst (λ (l : List ℕ). Stands l at w n) all (read_exactly body (length body * 8) at w n)

next_bits : (l : List ℕ) (at w n : ℕ) → take (w + n) (drop at l) ≡ take w (drop at l) ++ take n (drop (at + w) l)
next_bits l at w n = take-add w n (drop at l) ∙ rw (drop-drop w at l)

pub read_written : (body : List ℕ) (fs : List Field) (at : ℕ) (vs : List ℕ) → values_of fs at (bits_of body) ≡ Ok vs →
    Fits fs vs × (take (bit_count fs) (drop at (bits_of body)) ≡ written fs vs)
unfolding values_of Fits written
read_written body [] at [] e = (tt, refl)
read_written body [] at (v ∷ vs) e = let z : ◌≡◌ {A = ℕ} 0 1 = cc in absurd (omega arith)
read_written body (f ∷ fs) at vs e =
    let first = bind_ok (read_value (read_at (bits_of body) at (width_of f))) _ vs e in
    let later = bind_ok (values_of fs (at + width_of f) (bits_of body)) _ vs first.2 in
    let v = first.0 in
    let rest = read_written body fs (at + width_of f) later.0 later.1 in
    let s = (stands body at (width_of f) v).0 (value_good _ v first.1) in
    subst (λ (l : List ℕ). Fits (f ∷ fs) l × (take (width_of f + bit_count fs) (drop at (bits_of body)) ≡ written (f ∷ fs) l)) (ok_same later.2)
    ((s.0, rest.0), next_bits (bits_of body) at (width_of f) (bit_count fs) ∙ rw (s.1, rest.1))

pub written_read : (body : List ℕ) (fs : List Field) (at : ℕ) (vs : List ℕ) → Fits fs vs →
    take (bit_count fs) (drop at (bits_of body)) ≡ written fs vs → values_of fs at (bits_of body) ≡ Ok vs
unfolding Fits written
written_read body [] at [] h e = unfold values_of in refl
written_read body [] at (v ∷ vs) h e = absurd h
written_read body (f ∷ fs) at [] h e = absurd h
written_read body (f ∷ fs) at (v ∷ vs) h e =
    let w = width_of f in
    let x = drop at (bits_of body) in
    let len = length_in w v in
    let here : take w x ≡ bits_in w v = sym (take-take w (w + bit_count fs) x (omega arith)) ∙ ap (take w) e ∙ take_at (bits_in w v) (written fs vs) w len in
    let there : take (bit_count fs) (drop (at + w) (bits_of body)) ≡ written fs vs =
    ap (take (bit_count fs)) (sym (drop-drop w at (bits_of body))) ∙ sym (drop_take w (bit_count fs) x) ∙ ap (drop w) e ∙ drop_at (bits_in w v) (written fs vs) w len in
    let r = (stands body at w v).1 (h.0, here) in
    values_first (f ∷ fs) fs f at v (bits_of body) refl r ∙ ap (λ (r : Reading (List ℕ)). r >>= (λ us. Ok (v ∷ us))) (written_read body fs (at + w) vs h.1 there)

pub written_length : (fs : List Field) (vs : List ℕ) → Fits fs vs → length (written fs vs) ≡ bit_count fs
unfolding Fits written
written_length [] [] h = refl
written_length [] (v ∷ vs) h = absurd h
written_length (f ∷ fs) [] h = absurd h
written_length (f ∷ fs) (v ∷ vs) h = length-append (bits_in (width_of f) v) (written fs vs) ∙ rw (length_in, written_length fs vs h.1)

-- ── values are allowed exactly where no field is refused ──

pub allowed_if : (r : Values) (v : ℕ) → allows r v ≡ true → Allowed r v
unfolding allows
allowed_if (Only one) v e = eqb-true v one e
allowed_if (But one) v e = eqb-false v one (not-true _ e)
allowed_if (Within least greatest) v e =
    let h = and_parts (leb least v) (leb v greatest) e in
    (leb-true _ _ h.0, leb-true _ _ h.1)
allowed_if (WithinBut least greatest one) v e =
    let g = and_parts (leb least v && leb v greatest) (not (eqb v one)) e in
    let h = and_parts (leb least v) (leb v greatest) g.0 in
    (leb-true _ _ h.0, leb-true _ _ h.1, eqb-false v one (not-true _ g.1))

pub if_allowed : (r : Values) (v : ℕ) → Allowed r v → allows r v ≡ true
unfolding allows
if_allowed (Only one) v h = eq-eqb v one h
if_allowed (But one) v h = ap not (ne_eqb v one h)
if_allowed (Within least greatest) v h = rw (le-leb least v h.0, le-leb v greatest h.1)
if_allowed (WithinBut least greatest one) v h = rw (le-leb least v h.0, le-leb v greatest h.1, ne_eqb v one h.2)

pub kept_if : (r : Rule) (v at : ℕ) → ruled r v at ≡ Ok tt → Keeps r v
unfolding ruled
kept_if rule.Any v at e = tt
kept_if rule.Set v at e = eqb-true v 1 (not-false _ (if_fine _ _ e))
kept_if (rule.Judged field values) v at e = allowed_if values v (not-false _ (if_fine _ _ e))

pub if_kept : (r : Rule) (v at : ℕ) → Keeps r v → ruled r v at ≡ Ok tt
unfolding ruled
if_kept rule.Any v at h = refl
if_kept rule.Set v at h = fine_if _ _ (ap not (eq-eqb v 1 h))
if_kept (rule.Judged field values) v at h = fine_if _ _ (ap not (if_allowed values v h))

pub judge_fine : (fs : List Field) (at : ℕ) (vs : List ℕ) → Fits fs vs → judge fs at vs ≡ Ok tt → AllAllowed fs vs
unfolding judge Fits AllAllowed
judge_fine [] at [] h e = tt
judge_fine [] at (v ∷ vs) h e = absurd h
judge_fine (f ∷ fs) at [] h e = absurd h
judge_fine (f ∷ fs) at (v ∷ vs) h e =
    let p = both_fine (ruled (rule_of f) v at) (judge fs (at + width_of f) vs) e in
    (kept_if (rule_of f) v at p.0, judge_fine fs (at + width_of f) vs h.1 p.1)

pub fine_judge : (fs : List Field) (at : ℕ) (vs : List ℕ) → AllAllowed fs vs → judge fs at vs ≡ Ok tt
unfolding judge AllAllowed
fine_judge [] at [] h = refl
fine_judge [] at (v ∷ vs) h = absurd h
fine_judge (f ∷ fs) at [] h = absurd h
fine_judge (f ∷ fs) at (v ∷ vs) h = fine_both _ _ (if_kept (rule_of f) v at h.0) (fine_judge fs (at + width_of f) vs h.1)

-- ── the rules across fields ──

implied : (a b : ℕ) → eqb a 0 && not (eqb b 0) ≡ false → a ≡ 0 → b ≡ 0
implied a b e z = let h : not (eqb b 0) ≡ false = rw (eq-eqb a 0 z) at e in eqb-true b 0 (not-false _ h)

implies : (a b : ℕ) → (a ≡ 0 → b ≡ 0) → eqb a 0 && not (eqb b 0) ≡ false
implies a b f = by_test (eqb a 0) (λ t. rw (t, eq-eqb b 0 (f (eqb-true a 0 t)))) (λ n. rw n)

owned_if : (c : Ownership) → owner_rules c ≡ Ok tt → Owned c
unfolding owner_rules
owned_if c e =
    let h = both_fine (refuse_if (eqb c.flag 0 && not (eqb c.owner 0)) (fault.Value CopyrightOwner 5)) _ e in
    record { unflagged = implied c.flag c.owner (if_fine _ _ h.0); unowned = implied c.owner c.number (if_fine _ _ h.1) }

if_owned : (c : Ownership) → Owned c → owner_rules c ≡ Ok tt
unfolding owner_rules
if_owned c h = fine_both _ _ (fine_if _ _ (implies c.flag c.owner h.unflagged)) (fine_if _ _ (implies c.owner c.number h.unowned))

record_fine : (o : Option Ownership) → owned_by o ≡ Ok tt → (c : Ownership) × (o ≡ some c) × Owned c
record_fine none e = let z : ◌≡◌ {A = ℕ} 0 1 = cc in absurd (omega arith)
record_fine (some c) e = (c, refl, owned_if c e)

pub cross_fine : (layout : Layout) (vs : List ℕ) → cross layout vs ≡ Ok tt → Crossed layout vs
unfolding cross Crossed
cross_fine Header vs e = tt
cross_fine Display vs e = tt
cross_fine Coloured vs e = tt
cross_fine Copyright vs e = record_fine (ownership vs) e

pub fine_cross : (layout : Layout) (vs : List ℕ) → Crossed layout vs → cross layout vs ≡ Ok tt
unfolding cross Crossed
fine_cross Header vs h = refl
fine_cross Display vs h = refl
fine_cross Coloured vs h = refl
fine_cross Copyright vs h = ap owned_by h.1 ∙ if_owned h.0 h.2

-- ── the end ──

pub stuffing_is : (l : List ℕ) → stuffing l ≡ true → (n : ℕ) × (l ≡ 1 ∷ replicate n 0)
stuffing_is [] e = let z : ◌≡◌ {A = ℕ} 0 1 = cc in absurd (omega arith)
stuffing_is (b ∷ l) e =
    let h = and_parts (eqb b 1) (all_zero l) e in
    (length l, ap (λ (x : ℕ). x ∷ l) (eqb-true b 1 h.0) ∙ ap (λ (t : List ℕ). 1 ∷ t) (zeros_are l h.1))

pub is_stuffing : (l : List ℕ) (n : ℕ) → l ≡ 1 ∷ replicate n 0 → stuffing l ≡ true
is_stuffing l n e = ap stuffing e ∙ are_zeros n

-- ── the whole ──

pub obeys_if : (layout : Layout) (body vs : List ℕ) → reading layout body ≡ Ok vs → Obeys layout body vs
unfolding reading judged ended
obeys_if layout body vs e =
    let h = then_good (refuse_if (short layout body) fault.Short) _ vs e in
    let r = bind_ok (values_of (fields layout) 0 (bits_of body)) _ vs h.1 in
    let us = r.0 in
    let j = then_good (both (judge (fields layout) 0 us) (cross layout us)) _ vs r.2 in
    let s = then_good (refuse_if (not (stuffing (drop (bit_count (fields layout)) (bits_of body)))) fault.Stuffing) _ vs j.1 in
    let b = both_fine (judge (fields layout) 0 us) (cross layout us) j.0 in
    let w = read_written body (fields layout) 0 us r.1 in
    let end = drop (bit_count (fields layout)) (bits_of body) in
    let z = stuffing_is end (not-false (stuffing end) (if_fine (not (stuffing end)) fault.Stuffing s.0)) in
    subst (Obeys layout body) (ok_same s.1)
    (record {
      long = ltb-false _ _ (if_fine _ _ h.0);
      fits = w.0;
      allowed = judge_fine (fields layout) 0 us w.0 b.0;
      crossed = cross_fine layout us b.1;
      zeros = z.0;
      bits = sym (take-append-drop (bit_count (fields layout)) (bits_of body)) ∙ ap (λ (l : List ℕ). l ++ end) w.1 ∙ ap (λ (l : List ℕ). written (fields layout) us ++ l) z.1;
    })

pub if_obeys : (layout : Layout) (body vs : List ℕ) → Obeys layout body vs → reading layout body ≡ Ok vs
unfolding judged ended
if_obeys layout body vs h =
    let fs = fields layout in
    let len = written_length fs vs h.fits in
    let front : take (bit_count fs) (bits_of body) ≡ written fs vs = ap (take (bit_count fs)) h.bits ∙ take_at (written fs vs) _ (bit_count fs) len in
    let end : drop (bit_count fs) (bits_of body) ≡ 1 ∷ replicate h.zeros 0 = ap (drop (bit_count fs)) h.bits ∙ drop_at (written fs vs) _ (bit_count fs) len in
    let values = written_read body fs 0 vs h.fits front in
    let fine = fine_both _ _ (fine_judge fs 0 vs h.allowed) (fine_cross layout vs h.crossed) in
    reading_long layout body h.long
    ∙ ap (λ (r : Reading (List ℕ)). r >>= (λ us. judged layout us >> (ended layout body >> Ok us))) values
    ∙ fine_then (judged layout vs) _ fine
    ∙ fine_then (ended layout body) (Ok vs) (fine_if _ _ (ap not (is_stuffing _ h.zeros end)))
