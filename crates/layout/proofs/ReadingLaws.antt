-- The laws of reading and judging, over any list of fields.
use Rattle.std.proofs.Common.{Result, Ok, Err}
use Prim.Native.Nat.{ℕ, zero, suc, ◌+◌, ◌*◌, ◌<◌}
use mathlib.Core.Path.{◌≡◌, refl, sym, ap, ◌∙◌, subst}
use mathlib.Core.List.{List, [], ◌∷◌, ◌++◌, append_assoc, append-nil}
use native.Mathlib.Numerals.{add-one}
use lib.ListN.{length, take, drop, set}
use lib.Seq.{take-suc-set}
use Rattle.bits.specs.Bits.{read_on, read_at}
use Rattle.bits.proofs.ListLaws.{drop_take}
use Rattle.answers.proofs.ResultLaws.{not_ok, ok_same, bind_ok}
use Rattle.layout.specs.Layouts.{width_of, rule_of}
use Rattle.layout.specs.Reader.{Verdict, Reading, ◌>>◌, both, read_value, ruled, values_of, judge}
use Rattle.layout.specs.Inside.{taken, taken_from}
use Rattle.answers.specs.Results.{◌>>=◌}
use Rattle.layout.specs.declared.Field.{Field}
use Rattle.layout.specs.declared.Fault.TheVariants.{Short}
use Rattle.layout.specs.declared.Fault.{Fault}

-- ── a read looks no further than its end ──

take_reads : (acc w : ℕ) (l : List ℕ) → read_on acc w (take w l) ≡ read_on acc w l
unfolding read_on
take_reads acc zero l = refl
take_reads acc (suc w) [] = refl
take_reads acc (suc w) (b ∷ l) = take_reads (acc * 2 + b) w l

pub read_inside : (l : List ℕ) (at w : ℕ) → read_at (take (at + w) l) at w ≡ read_at l at w
unfolding read_at
read_inside l at w = ap (read_on 0 w) (drop_take at w l) ∙ take_reads 0 w (drop at l)

-- ── values in order ──

-- values that are read, before those that are still to be read
abbrev pub onto : List ℕ → Reading (List ℕ) → Reading (List ℕ)
onto l r = r >>= (λ vs. Ok (l ++ vs))

pub onto_none : (r : Reading (List ℕ)) → r ≡ onto [] r
onto_none (Ok vs) = refl
onto_none (Err fault) = refl

onto_more : (l : List ℕ) (v : ℕ) (r : Reading (List ℕ)) → onto l (r >>= (λ vs. Ok (v ∷ vs))) ≡ onto (l ++ (v ∷ [])) r
onto_more l v (Ok vs) = ap Ok (sym (append_assoc l (v ∷ []) vs))
onto_more l v (Err fault) = refl

pub values_first : (fs gs : List Field) (f : Field) (at v : ℕ) (bits : List ℕ) → fs ≡ f ∷ gs → read_at bits at (width_of f) ≡ Ok v →
    values_of fs at bits ≡ (values_of gs (at + width_of f) bits >>= (λ vs. Ok (v ∷ vs)))
unfolding values_of
values_first fs gs f at v bits e r =
    ap (λ (l : List Field). values_of l at bits) e
    ∙ ap (λ (x : Result ℕ ℕ). read_value x >>= (λ u. values_of gs (at + width_of f) bits >>= (λ vs. Ok (u ∷ vs)))) r

-- ── values ──

pub value_good : (x : Result ℕ ℕ) (v : ℕ) → read_value x ≡ Ok v → x ≡ Ok v
value_good (Ok n) v e = ap Ok (ok_same e)
value_good (Err m) v e = not_ok e

-- ── fields that are read and judged one after another ──

-- a field of which the value is read
pub taken_value : (f : Field) (at v : ℕ) (bits : List ℕ) → read_at bits at (width_of f) ≡ Ok v →
    taken f at bits ≡ (ruled (rule_of f) v at >> Ok v)
unfolding taken
taken_value f at v bits r = ap (λ (x : Result ℕ ℕ). read_value x >>= (λ u. ruled (rule_of f) u at >> Ok u)) r

-- a read that failed
pub taken_fail : (f : Field) (at m : ℕ) (bits : List ℕ) → read_at bits at (width_of f) ≡ Err m → taken f at bits ≡ Err Short
unfolding taken
taken_fail f at m bits r = ap (λ (x : Result ℕ ℕ). read_value x >>= (λ u. ruled (rule_of f) u at >> Ok u)) r

taken_first : (fs gs : List Field) (f : Field) (at : ℕ) (bits : List ℕ) → fs ≡ f ∷ gs →
    taken_from fs at bits ≡ (taken f at bits >>= (λ v. taken_from gs (at + width_of f) bits >>= (λ vs. Ok (v ∷ vs))))
unfolding taken_from
taken_first fs gs f at bits e = ap (λ (l : List Field). taken_from l at bits) e

pub taken_step : (fs gs : List Field) (f : Field) (at i v : ℕ) (bits values : List ℕ) → fs ≡ f ∷ gs → taken f at bits ≡ Ok v → i < length values →
    onto (take i values) (taken_from fs at bits) ≡ onto (take (i + 1) (set values i v)) (taken_from gs (at + width_of f) bits)
taken_step fs gs f at i v bits values e r h =
    ap (onto (take i values)) (taken_first fs gs f at bits e ∙ ap (λ (x : Reading ℕ). x >>= (λ v. taken_from gs (at + width_of f) bits >>= (λ vs. Ok (v ∷ vs)))) r)
    ∙ onto_more (take i values) v (taken_from gs (at + width_of f) bits)
    ∙ ap (λ (l : List ℕ). onto l (taken_from gs (at + width_of f) bits)) (sym (take-suc-set values i v h) ∙ ap (λ (n : ℕ). take n (set values i v)) (sym (add-one i)))

pub taken_stop : (fs gs : List Field) (f : Field) (at : ℕ) (l bits : List ℕ) (why : Fault) → fs ≡ f ∷ gs → taken f at bits ≡ Err why → onto l (taken_from fs at bits) ≡ Err why
taken_stop fs gs f at l bits why e r = ap (onto l) (taken_first fs gs f at bits e ∙ ap (λ (x : Reading ℕ). x >>= (λ v. taken_from gs (at + width_of f) bits >>= (λ vs. Ok (v ∷ vs)))) r)

pub taken_end : (fs : List Field) (at : ℕ) (l bits : List ℕ) → fs ≡ [] → onto l (taken_from fs at bits) ≡ Ok l
unfolding taken_from
taken_end fs at l bits e = ap (λ (gs : List Field). onto l (taken_from gs at bits)) e ∙ ap Ok (append-nil l)

-- where all values are read, that is judging them
onto_then : (v : ℕ) (vs : List ℕ) (w : Verdict) → ((w >> Ok vs) >>= (λ us. Ok (v ∷ us))) ≡ (w >> Ok (v ∷ vs))
onto_then v vs (Ok tt) = refl
onto_then v vs (Err why) = refl

-- a field's verdict, and then those of the fields after it
both_onto : (v : ℕ) (us : List ℕ) (w j : Verdict) → ((w >> Ok v) >>= (λ v. (j >> Ok us) >>= (λ vs. Ok (v ∷ vs)))) ≡ (both w j >> Ok (v ∷ us))
both_onto v us (Ok tt) j = onto_then v us j
both_onto v us (Err why) j = refl

pub taken_judged : (fs : List Field) (at : ℕ) (bits vs : List ℕ) → values_of fs at bits ≡ Ok vs → taken_from fs at bits ≡ (judge fs at vs >> Ok vs)
unfolding values_of judge taken_from
taken_judged [] at bits vs e = ap Ok (ok_same e)
taken_judged (f ∷ fs) at bits vs e =
    let first = bind_ok (read_value (read_at bits at (width_of f))) _ vs e in
    let later = bind_ok (values_of fs (at + width_of f) bits) _ vs first.2 in
    let v = first.0 in
    let us = later.0 in
    let rest = taken_judged fs (at + width_of f) bits us later.1 in
    let here = taken_value f at v bits (value_good (read_at bits at (width_of f)) v first.1) in
    subst (λ (l : List ℕ). taken_from (f ∷ fs) at bits ≡ (judge (f ∷ fs) at l >> Ok l)) (ok_same later.2)
    (ap (λ (x : Reading ℕ). x >>= (λ v. taken_from fs (at + width_of f) bits >>= (λ vs. Ok (v ∷ vs)))) here
    ∙ ap (λ (x : Reading (List ℕ)). (ruled (rule_of f) v at >> Ok v) >>= (λ v. x >>= (λ vs. Ok (v ∷ vs)))) rest
    ∙ both_onto v us (ruled (rule_of f) v at) (judge fs (at + width_of f) us))
