-- What an answer is given for: the bodies that obey, by their number and colour bit.
use Rattle.std.proofs.Common.{Result, Ok, Err}
use Rattle.std.specs.Prelude as std
use Prim.Native.Nat.{ℕ, zero, suc, ◌+◌, ◌*◌, ◌<◌}
use mathlib.Core.Path.{◌≡◌, refl, sym, ap, ◌∙◌, subst}
use mathlib.Core.Logic.{◌≢◌, ◌↔◌}
use mathlib.Core.List.{List, [], ◌∷◌}
use mathlib.Core.Bool.{Bool, false, cond}
use mathlib.Core.Option.{Option, none, some}
use native.Mathlib.Omega.{arith}
use borrow.Author.Tests.{eqb-true, eqb-false, ne_eqb, le-ltb}
use lib.Dec.{eqb}
use lib.ListN.{length, get_or, get_elem?, take, drop}
use Rattle.answers.specs.Answers.{Carried, done, refused}
use Rattle.bits.specs.Bits.{bits_of, bit_at, read_on, read_at}
use Rattle.bits.proofs.TestLaws.{by_test}
use Rattle.bits.proofs.BitLaws.{bit_here}
use Rattle.layout.specs.Layouts.{width_of, marker, fields, bit_count, least_bytes}
use Rattle.bodies.specs.Records.{header_record, plain_record, coloured_record, copyright_record}
use Rattle.layout.specs.Obeys.{Fits, Obeys}
use Rattle.bodies.specs.Bodies.{HeaderBody, DisplayBody, plain, coloured, CopyrightBody}
use Rattle.bodies.specs.Extensions.{HasNumber, ColourGiven}
use Rattle.layout.specs.Breaks.{Holds}
use Rattle.layout.specs.Reader.{Reading, read_value, values_of, reading}
use Rattle.bodies.specs.Reader.{recorded, record_of, header_of, plain_of, coloured_of, copyright_of, display_short, display_of, number_of, not_copyright, by_number, extension_result, extension_of}
use Rattle.answers.specs.Results.{◌>>=◌}
use Rattle.bodies.specs.Answers.{fault_number, fault_bit, answer_of}
use Rattle.bodies.specs.declared.ExtensionBody.{ExtensionBody}
use Rattle.bodies.specs.declared.ExtensionBody.TheVariants as extension
use Rattle.layout.specs.declared.Field.{Field}
use Rattle.layout.specs.declared.Layout.{Layout}
use Rattle.layout.specs.declared.Layout.TheVariants.{Header, Display, Coloured, Copyright}
use Rattle.layout.specs.declared.Fault.{Fault}
use Rattle.bodies.specs.declared.Scope.{Scope}
use Rattle.bodies.specs.declared.Scope.TheVariants.{Head, Picture}
use Rattle.bodies.specs.declared.SequenceHeader.{SequenceHeader}
use Rattle.bodies.specs.declared.DisplayExtension.{DisplayExtension}
use Rattle.bodies.specs.declared.CopyrightExtension.{CopyrightExtension}
use Rattle.layout.proofs.LayoutLaws.{fits_length, spell, spelled}
use Rattle.bodies.proofs.NumberLaws.{number_iff, number_one}
use Rattle.layout.proofs.ReadingLaws.{value_good}
use Rattle.layout.proofs.ObeyLaws.{obeys_if, if_obeys}
use Rattle.answers.proofs.OutcomeLaws.{not_done, not_refused, done_one}
use Rattle.answers.proofs.ResultLaws.{not_ok, not_err, ok_same, err_same, bind_ok}
use Rattle.layout.proofs.BreakLaws.{held_read}
use Rattle.bodies.proofs.AnswerLaws.{short_by, display_short_lem, display_long, not_short, colour_there}

-- ── answers and results ──

pub answer_done : {A : Type 0} (r : Reading A) (a : A) → answer_of r ≡ done a → r ≡ Ok a
unfolding answer_of
answer_done (Ok b) a e = ap Ok (done_one e)
answer_done (Err why) a e = not_done e

pub answer_refused : {A : Type 0} (r : Reading A) (n : ℕ) (carried : List Carried) →
    (answer_of r ≡ refused n carried) ↔ ((why : Fault) × (r ≡ Err why) × (n ≡ fault_number why) × (carried ≡ fault_bit why))
unfolding answer_of
answer_refused (Ok a) n carried = (not_refused, λ h. not_err h.1)
answer_refused (Err f) n carried = ((λ e. (f, refl, cc, cc)), λ h. ap answer_of h.1 ∙ rw (← h.2, ← h.3))

-- ── records ──

recorded_good : {A : Type 0} (o : Option A) (a : A) → recorded o ≡ Ok a → o ≡ some a
recorded_good none a e = not_ok e
recorded_good (some b) a e = ap some (ok_same e)

pub record_if : {A : Type 0} (layout : Layout) (make : List ℕ → Option A) (body : List ℕ) (a : A) → record_of layout make body ≡ Ok a →
    (vs : List ℕ) × Obeys layout body vs × (make vs ≡ some a)
unfolding record_of
record_if layout make body a e =
    let r = bind_ok (reading layout body) _ a e in
    (r.0, obeys_if layout body r.0 r.1, recorded_good (make r.0) a r.2)

pub if_record : {A : Type 0} (layout : Layout) (make : List ℕ → Option A) (body : List ℕ) (a : A) (vs : List ℕ) → Obeys layout body vs → make vs ≡ some a → record_of layout make body ≡ Ok a
unfolding record_of
if_record layout make body a vs h m = ap (λ (r : Reading (List ℕ)). r >>= (λ us. recorded (make us))) (if_obeys layout body vs h) ∙ ap recorded m

-- values that fit make a record, so a record is refused exactly where its body is
pub record_bad : {A : Type 0} (layout : Layout) (make : List ℕ → Option A) (body : List ℕ) (why : Fault) → ((vs : List ℕ) → Fits (fields layout) vs → (a : A) × (make vs ≡ some a)) →
    record_of layout make body ≡ Err why → reading layout body ≡ Err why
unfolding record_of
record_bad {A} layout make body why makes e = go (reading layout body) refl e
  where
    go : (r : Reading (List ℕ)) → reading layout body ≡ r → (r >>= (λ vs. recorded (make vs))) ≡ Err why → r ≡ Err why
    go (Ok vs) q x =
        let m = makes vs (obeys_if layout body vs q).fits in
        not_err {A = A} (sym (ap recorded m.1) ∙ x)
    go (Err f) q x = ap Err (err_same {A = A} x)

pub bad_record : {A : Type 0} (layout : Layout) (make : List ℕ → Option A) (body : List ℕ) (why : Fault) → reading layout body ≡ Err why → record_of layout make body ≡ Err why
unfolding record_of
bad_record layout make body why e = ap (λ (r : Reading (List ℕ)). r >>= (λ us. recorded (make us))) e

pub header_made : (vs : List ℕ) → Fits (fields Header) vs → (h : SequenceHeader) × (header_record vs ≡ some h)
unfolding header_record fields
header_made vs f = (_, ap header_record (spelled 16 vs (fits_length (fields Header) vs f)))

pub plain_made : (vs : List ℕ) → Fits (fields Display) vs → (d : DisplayExtension) × (plain_record vs ≡ some d)
unfolding plain_record fields
plain_made vs f = (_, ap plain_record (spelled 8 vs (fits_length (fields Display) vs f)))

pub coloured_made : (vs : List ℕ) → Fits (fields Coloured) vs → (d : DisplayExtension) × (coloured_record vs ≡ some d)
unfolding coloured_record fields
coloured_made vs f = (_, ap coloured_record (spelled 11 vs (fits_length (fields Coloured) vs f)))

-- ── what a body's fields are ──

value_read : (bits : List ℕ) (fs : List Field) (at : ℕ) (vs : List ℕ) (i : ℕ) → values_of fs at bits ≡ Ok vs → i < length fs →
    read_at bits (at + bit_count (take i fs)) (width_of (get_or fs i marker)) ≡ Ok (get_or vs i 0)
unfolding values_of
value_read bits [] at vs i e h = absurd (omega arith)
value_read bits (f ∷ fs) at vs zero e h =
    let first = bind_ok (read_value (read_at bits at (width_of f))) _ vs e in
    let later = bind_ok (values_of fs (at + width_of f) bits) _ vs first.2 in
    let z : at + 0 ≡ at = omega arith in
    rw z (value_good _ _ first.1 ∙ ap (λ (l : List ℕ). Ok (get_or l 0 0)) (ok_same later.2))
value_read bits (f ∷ fs) at vs (suc i) e h =
    let first = bind_ok (read_value (read_at bits at (width_of f))) _ vs e in
    let later = bind_ok (values_of fs (at + width_of f) bits) _ vs first.2 in
    let z : at + (width_of f + bit_count (take i fs)) ≡ at + width_of f + bit_count (take i fs) = omega arith in
    rw z (value_read bits fs (at + width_of f) later.0 i later.1 (omega arith) ∙ ap (λ (l : List ℕ). Ok (get_or l (suc i) 0)) (ok_same later.2))

-- a body's field i has value i
held_field : (layout : Layout) (body vs end : List ℕ) → Holds layout body vs end → (i : ℕ) → i < length (fields layout) →
    read_at (bits_of body) (bit_count (take i (fields layout))) (width_of (get_or (fields layout) i marker)) ≡ Ok (get_or vs i 0)
held_field layout body vs end h i k =
    let z : bit_count (take i (fields layout)) ≡ 0 + bit_count (take i (fields layout)) = omega arith in
    rw z (value_read (bits_of body) (fields layout) 0 vs i (held_read layout body vs end h) k)

bit_value : (l : List ℕ) (at v : ℕ) (m : List ℕ) → drop at l ≡ m → read_on 0 1 m ≡ Ok v → bit_at l at ≡ std.Some v
unfolding read_on
bit_value l at v [] d e = not_ok e
bit_value l at v (b ∷ m) d e =
    let s : 0 * 2 + b ≡ v = ok_same e in
    let t : b ≡ v = omega arith in
    sym (bit_here l at b m d) ∙ ap std.Some t

colour_bit : (body : List ℕ) (v : ℕ) → read_at (bits_of body) 8 1 ≡ Ok v → bit_at (bits_of body) 8 ≡ std.Some v
unfolding read_at
colour_bit body v e = bit_value (bits_of body) 8 v (drop 8 (bits_of body)) refl e

-- ── display extensions ──

wrapped : {A : Type 0} (r : Reading A) (wrap : A → ExtensionBody) (x : ExtensionBody) → (r >>= (λ a. Ok (wrap a))) ≡ Ok x → (a : A) × (r ≡ Ok a) × (x ≡ wrap a)
wrapped r wrap x e = let b = bind_ok r _ x e in (b.0, b.1, sym (ok_same b.2))

pub wrapped_bad : {A : Type 0} (r : Reading A) (wrap : A → ExtensionBody) (why : Fault) → (r >>= (λ a. Ok (wrap a))) ≡ Err why → r ≡ Err why
wrapped_bad (Ok a) wrap why e = not_err e
wrapped_bad (Err f) wrap why e = ap Err (err_same {A = ExtensionBody} e)

-- what a display extension's body gives
display_if : (body : List ℕ) (x : ExtensionBody) → HasNumber body 2 → display_of body ≡ Ok x → (d : DisplayExtension) × (x ≡ extension.Display d) × DisplayBody body d
unfolding plain_of coloured_of
display_if body x n e = by_test (display_short body) (λ t. not_ok (sym (display_short_lem body t) ∙ e)) long
  where
    long : display_short body ≡ false → (d : DisplayExtension) × (x ≡ extension.Display d) × DisplayBody body d
    long f =
        let (given, c, small) = colour_there body (not_short body f) in
        let r : cond (eqb given 1) (coloured_of body) (plain_of body) ≡ Ok x = sym (display_long body (std.Some given) f c) ∙ e in
        by_test (eqb given 1)
        (λ t.
        let w = wrapped (record_of Coloured coloured_record body) extension.Display x (rw t at r) in
        let o = record_if Coloured coloured_record body w.0 w.1 in
        (w.0, w.2, coloured n (subst (ColourGiven body) (eqb-true given 1 t) c) o.0 o.1 o.2))
        (λ g.
        let not-one = eqb-false given 1 g in
        let none : given ≡ 0 = omega arith in
        let w = wrapped (record_of Display plain_record body) extension.Display x (rw g at r) in
        let o = record_if Display plain_record body w.0 w.1 in
        (w.0, w.2, plain n (subst (ColourGiven body) none c) o.0 o.1 o.2))

if_display : (body : List ℕ) (d : DisplayExtension) → DisplayBody body d → HasNumber body 2 × (display_of body ≡ Ok (extension.Display d))
unfolding plain_of coloured_of least_bytes
if_display body d (plain n c vs h m) = (
  n,
  display_long body (std.Some 0) (short_by body (std.Some 0) h.long c) c
      ∙ ap (λ (r : Reading DisplayExtension). r >>= (λ d. Ok (extension.Display d))) (if_record Display plain_record body d vs h m),
)
if_display body d (coloured n c vs h m) =
    let long = h.long in (
      n,
      display_long body (std.Some 1) (short_by body (std.Some 1) (omega arith) c ∙ le-ltb (length body) 9 h.long) c
          ∙ ap (λ (r : Reading DisplayExtension). r >>= (λ d. Ok (extension.Display d))) (if_record Coloured coloured_record body d vs h m),
    )

-- ── copyright extensions ──

copyright_if : (body : List ℕ) (x : ExtensionBody) → HasNumber body 4 → copyright_of body ≡ Ok x → (c : CopyrightExtension) × (x ≡ extension.Copyright c) × CopyrightBody body c
unfolding copyright_of
copyright_if body x n e =
    let w = wrapped (record_of Copyright copyright_record body) extension.Copyright x e in
    let r = record_if Copyright copyright_record body w.0 w.1 in
    (w.0, w.2, record { number = n; values = r.0; obeys = r.1; recorded = r.2 })

if_copyright : (body : List ℕ) (c : CopyrightExtension) → CopyrightBody body c → HasNumber body 4 × (copyright_of body ≡ Ok (extension.Copyright c))
unfolding copyright_of
if_copyright body c h = (
  h.number,
  ap (λ (r : Reading CopyrightExtension). r >>= (λ c. Ok (extension.Copyright c))) (if_record Copyright copyright_record body c h.values h.obeys h.recorded),
)

-- ── extensions ──

-- why an extension answers what it does
pub data Answers (scope : Scope) (body : List ℕ) (x : ExtensionBody) : Type 0 where
  as_display : (d : DisplayExtension) → scope ≡ Head → x ≡ extension.Display d → DisplayBody body d → Answers scope body x
  as_copyright : (c : CopyrightExtension) → x ≡ extension.Copyright c → CopyrightBody body c → Answers scope body x
  as_opaque : (n : ℕ) → x ≡ extension.Opaque n → HasNumber body n → n ≢ 4 → (scope ≡ Head → n ≢ 2) → Answers scope body x

by_scope : (scope : Scope) (body : List ℕ) (n : ℕ) (x : ExtensionBody) → HasNumber body n → n ≢ 4 → not_copyright scope body n ≡ Ok x → Answers scope body x
by_scope Head body n x r f e =
    by_test (eqb n 2)
    (λ t. let h = display_if body x (subst (HasNumber body) (eqb-true n 2 t) r) (sym (ap (λ (b : Bool). cond b (display_of body) (Ok (extension.Opaque n))) t) ∙ e) in as_display h.0 refl h.1 h.2)
    (λ o.
    as_opaque n (sym (ok_same (sym (ap (λ (b : Bool). cond b (display_of body) (Ok (extension.Opaque n))) o) ∙ e))) r f
    (λ p. eqb-false n 2 o))
by_scope Picture body n x r f e = as_opaque n (sym (ok_same e)) r f (λ p. let z : ◌≡◌ {A = ℕ} 0 1 = cc in absurd (omega arith))

pub extension_if : (scope : Scope) (body : List ℕ) (x : ExtensionBody) → extension_result scope body ≡ Ok x → Answers scope body x
unfolding extension_result by_number
extension_if scope body x e =
    let b = bind_ok (read_value (number_of body)) _ x e in
    let n = b.0 in
    let r = (number_iff body n).0 (value_good (number_of body) n b.1) in
    by_test (eqb n 4)
    (λ t. let h = copyright_if body x (subst (HasNumber body) (eqb-true n 4 t) r) (sym (ap (λ (b : Bool). cond b (copyright_of body) (not_copyright scope body n)) t) ∙ b.2) in as_copyright h.0 h.1 h.2)
    (λ f. by_scope scope body n x r (eqb-false n 4 f) (sym (ap (λ (b : Bool). cond b (copyright_of body) (not_copyright scope body n)) f) ∙ b.2))

by_number_lem : (scope : Scope) (body : List ℕ) (n : ℕ) → HasNumber body n → extension_result scope body ≡ by_number scope body n
unfolding extension_result
by_number_lem scope body n h = ap (λ (x : Result ℕ ℕ). read_value x >>= by_number scope body) ((number_iff body n).1 h)

pub if_as_display : (body : List ℕ) (d : DisplayExtension) → DisplayBody body d → extension_result Head body ≡ Ok (extension.Display d)
unfolding by_number
if_as_display body d h = let i = if_display body d h in by_number_lem Head body 2 i.0 ∙ i.1

pub if_as_copyright : (scope : Scope) (body : List ℕ) (c : CopyrightExtension) → CopyrightBody body c → extension_result scope body ≡ Ok (extension.Copyright c)
unfolding by_number
if_as_copyright scope body c h = let i = if_copyright body c h in by_number_lem scope body 4 i.0 ∙ i.1

other_number : (scope : Scope) (body : List ℕ) (n : ℕ) → (scope ≡ Head → n ≢ 2) → not_copyright scope body n ≡ Ok (extension.Opaque n)
other_number Head body n f = ap (λ (b : Bool). cond b (display_of body) (Ok (extension.Opaque n))) (ne_eqb n 2 (f refl))
other_number Picture body n f = refl

pub if_as_opaque : (scope : Scope) (body : List ℕ) (n : ℕ) → HasNumber body n → n ≢ 4 → (scope ≡ Head → n ≢ 2) → extension_result scope body ≡ Ok (extension.Opaque n)
unfolding by_number
if_as_opaque scope body n e f g =
    by_number_lem scope body n e
    ∙ ap (λ (b : Bool). cond b (copyright_of body) (not_copyright scope body n)) (ne_eqb n 4 f)
    ∙ other_number scope body n g

-- in a head, number 2 is a display extension
pub display_result : (body : List ℕ) → HasNumber body 2 → extension_result Head body ≡ display_of body
unfolding by_number
display_result body h = by_number_lem Head body 2 h

-- ── the fields that choose a layout ──

same_bit : (m n : ℕ) (x : std.Option ℕ) → x ≡ std.Some m → x ≡ std.Some n → m ≡ n
same_bit m n x e f = cc

pub display_fixed : (body vs end : List ℕ) → Holds Display body vs end → HasNumber body 2 → bit_at (bits_of body) 8 ≡ std.Some 0 → (get_or vs 0 0 ≡ 2) × (get_or vs 3 0 ≡ 0)
unfolding fields
display_fixed body vs end h n c = (
  number_one body (get_or vs 0 0) 2 ((number_iff body _).0 (held_field Display body vs end h 0 (omega arith))) n,
  same_bit (get_or vs 3 0) 0 (bit_at (bits_of body) 8) (colour_bit body (get_or vs 3 0) (held_field Display body vs end h 3 (omega arith))) c,
)

pub coloured_fixed : (body vs end : List ℕ) → Holds Coloured body vs end → HasNumber body 2 → bit_at (bits_of body) 8 ≡ std.Some 1 → (get_or vs 0 0 ≡ 2) × (get_or vs 3 0 ≡ 1)
unfolding fields
coloured_fixed body vs end h n c = (
  number_one body (get_or vs 0 0) 2 ((number_iff body _).0 (held_field Coloured body vs end h 0 (omega arith))) n,
  same_bit (get_or vs 3 0) 1 (bit_at (bits_of body) 8) (colour_bit body (get_or vs 3 0) (held_field Coloured body vs end h 3 (omega arith))) c,
)

pub copyright_fixed : (body vs end : List ℕ) → Holds Copyright body vs end → HasNumber body 4 → get_or vs 0 0 ≡ 4
unfolding fields
copyright_fixed body vs end h n = number_one body (get_or vs 0 0) 4 ((number_iff body _).0 (held_field Copyright body vs end h 0 (omega arith))) n

-- the same of values that are there
there : (n : ℕ) (vs : List ℕ) (i v : ℕ) → length vs ≡ n → get_elem? (spell n 0 vs) i ≡ some (get_or vs i 0) → get_or vs i 0 ≡ v → get_elem? vs i ≡ some v
there n vs i v l e f = ap (λ (l : List ℕ). get_elem? l i) (spelled n vs l) ∙ e ∙ ap some f

pub display_there : (body vs end : List ℕ) → Holds Display body vs end → HasNumber body 2 → ColourGiven body 0 → (get_elem? vs 0 ≡ some 2) × (get_elem? vs 3 ≡ some 0)
unfolding fields
display_there body vs end h n c =
    let l = fits_length (fields Display) vs h.fits in
    let f = display_fixed body vs end h n c in
    (there 8 vs 0 2 l refl f.0, there 8 vs 3 0 l refl f.1)

pub coloured_there : (body vs end : List ℕ) → Holds Coloured body vs end → HasNumber body 2 → ColourGiven body 1 → (get_elem? vs 0 ≡ some 2) × (get_elem? vs 3 ≡ some 1)
unfolding fields
coloured_there body vs end h n c =
    let l = fits_length (fields Coloured) vs h.fits in
    let f = coloured_fixed body vs end h n c in
    (there 11 vs 0 2 l refl f.0, there 11 vs 3 1 l refl f.1)

pub copyright_there : (body vs end : List ℕ) → Holds Copyright body vs end → HasNumber body 4 → get_elem? vs 0 ≡ some 4
unfolding fields
copyright_there body vs end h n = there 11 vs 0 4 (fits_length (fields Copyright) vs h.fits) refl (copyright_fixed body vs end h n)

-- ── what is answered ──

pub header_if : (body : List ℕ) (h : SequenceHeader) → header_of body ≡ done h → HeaderBody body h
unfolding header_of
header_if body h e =
    let r = record_if Header header_record body h (answer_done (record_of Header header_record body) h e) in
    record { values = r.0; obeys = r.1; recorded = r.2 }

pub if_header : (body : List ℕ) (h : SequenceHeader) → HeaderBody body h → header_of body ≡ done h
unfolding header_of answer_of
if_header body h i = ap answer_of (if_record Header header_record body h i.values i.obeys i.recorded)

-- an answer has one reason
display_reason : (scope : Scope) (body : List ℕ) (d : DisplayExtension) → Answers scope body (extension.Display d) → (scope ≡ Head) × DisplayBody body d
display_reason scope body d (as_display e p x h) = let s : e ≡ d = cc in (p, subst (DisplayBody body) s h)
display_reason scope body d (as_copyright c x h) = let z : ◌≡◌ {A = ℕ} 0 1 = cc in absurd (omega arith)
display_reason scope body d (as_opaque n x r f g) = let z : ◌≡◌ {A = ℕ} 0 1 = cc in absurd (omega arith)

copyright_reason : (scope : Scope) (body : List ℕ) (c : CopyrightExtension) → Answers scope body (extension.Copyright c) → CopyrightBody body c
copyright_reason scope body c (as_display d p x h) = let z : ◌≡◌ {A = ℕ} 0 1 = cc in absurd (omega arith)
copyright_reason scope body c (as_copyright e x h) = let s : e ≡ c = cc in subst (CopyrightBody body) s h
copyright_reason scope body c (as_opaque n x r f g) = let z : ◌≡◌ {A = ℕ} 0 1 = cc in absurd (omega arith)

abbrev Alone : Scope → List ℕ → ℕ → Type 0
Alone scope body n = HasNumber body n × (n ≢ 4) × (scope ≡ Head → n ≢ 2)

opaque_reason : (scope : Scope) (body : List ℕ) (n : ℕ) → Answers scope body (extension.Opaque n) → Alone scope body n
opaque_reason scope body n (as_display d p x h) = let z : ◌≡◌ {A = ℕ} 0 1 = cc in absurd (omega arith)
opaque_reason scope body n (as_copyright c x h) = let z : ◌≡◌ {A = ℕ} 0 1 = cc in absurd (omega arith)
opaque_reason scope body n (as_opaque m x r f g) = let s : m ≡ n = cc in subst (Alone scope body) s (r, f, g)

answers_by : (scope : Scope) (body : List ℕ) (x : ExtensionBody) → extension_of scope body ≡ done x → Answers scope body x
unfolding extension_of
answers_by scope body x e = extension_if scope body x (answer_done (extension_result scope body) x e)

by_answers : (scope : Scope) (body : List ℕ) (x : ExtensionBody) → extension_result scope body ≡ Ok x → extension_of scope body ≡ done x
unfolding extension_of answer_of
by_answers scope body x e = ap answer_of e

pub answers_display : (scope : Scope) (body : List ℕ) (d : DisplayExtension) → extension_of scope body ≡ done (extension.Display d) → (scope ≡ Head) × DisplayBody body d
answers_display scope body d e = display_reason scope body d (answers_by scope body (extension.Display d) e)

pub display_answers : (scope : Scope) (body : List ℕ) (d : DisplayExtension) → (scope ≡ Head) × DisplayBody body d → extension_of scope body ≡ done (extension.Display d)
display_answers scope body d h = ap (λ (p : Scope). extension_of p body) h.0 ∙ by_answers Head body (extension.Display d) (if_as_display body d h.1)

pub answers_copyright : (scope : Scope) (body : List ℕ) (c : CopyrightExtension) → extension_of scope body ≡ done (extension.Copyright c) → CopyrightBody body c
answers_copyright scope body c e = copyright_reason scope body c (answers_by scope body (extension.Copyright c) e)

pub copyright_answers : (scope : Scope) (body : List ℕ) (c : CopyrightExtension) → CopyrightBody body c → extension_of scope body ≡ done (extension.Copyright c)
copyright_answers scope body c h = by_answers scope body (extension.Copyright c) (if_as_copyright scope body c h)

pub answers_opaque : (scope : Scope) (body : List ℕ) (n : ℕ) → extension_of scope body ≡ done (extension.Opaque n) → Alone scope body n
answers_opaque scope body n e = opaque_reason scope body n (answers_by scope body (extension.Opaque n) e)

pub opaque_answers : (scope : Scope) (body : List ℕ) (n : ℕ) → Alone scope body n → extension_of scope body ≡ done (extension.Opaque n)
opaque_answers scope body n h = by_answers scope body (extension.Opaque n) (if_as_opaque scope body n h.0 h.1 h.2)
