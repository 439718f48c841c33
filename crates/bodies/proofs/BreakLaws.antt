-- Reading a header, a display extension or any extension refuses exactly where its body breaks what document 01 says of it.
use Rattle.std.proofs.Common.{Ok, Err}
use Rattle.std.specs.Prelude as std
use Prim.Native.Nat.{ℕ, ◌≤◌, ◌<◌}
use mathlib.Core.Path.{◌≡◌, refl, sym, ap, ◌∙◌, subst}
use mathlib.Core.Logic.{◌≢◌, inl, inr, ◌↔◌}
use mathlib.Core.List.{List, [], ◌∷◌}
use mathlib.Core.Bool.{true, false, cond, ◌&&◌, ◌||◌, or-true, false≢true}
use mathlib.Core.Option.{Option, some}
use native.Mathlib.Omega.{arith}
use borrow.Author.Tests.{eqb-true, eqb-false, ltb-true, lt-ltb}
use lib.Dec.{eqb}
use lib.ListN.{length}
use Rattle.answers.proofs.ResultLaws.{not_err}
use Rattle.answers.specs.Answers.{Carried, refused, SHORT, VALUE}
use Rattle.bits.specs.Bits.{bits_of, bit_at, read_on, read_at}
use Rattle.std.proofs.lemmas.Bool.{and_parts}
use Rattle.bits.proofs.TestLaws.{by_test}
use Rattle.layout.specs.Layouts.{fields}
use Rattle.bodies.specs.Records.{header_record, plain_record, coloured_record, copyright_record}
use Rattle.layout.specs.Obeys.{Fits}
use Rattle.layout.specs.Reader.{Reading, short}
use Rattle.bodies.specs.Reader.{record_of, header_result, plain_of, coloured_of, copyright_of, is_one, display_short, display_of, number_of, not_copyright, by_number, extension_result, extension_of}
use Rattle.answers.specs.Results.{◌>>=◌}
use Rattle.bodies.specs.Answers.{value_number, fault_number, fault_bit, answer_of}
use Rattle.bodies.specs.declared.ExtensionBody.{ExtensionBody}
use Rattle.bodies.specs.declared.ExtensionBody.TheVariants as extension
use Rattle.layout.specs.Breaks.{Breaks}
use Rattle.bodies.specs.Breaks.{ShortDisplay, BreaksDisplay, short_display, coloured, plain, BreaksExtension, empty}
use Rattle.bodies.specs.Breaks as breaks
use Rattle.bodies.specs.Extensions.{HasNumber, ColourGiven}
use Rattle.layout.specs.declared.Layout.{Layout}
use Rattle.layout.specs.declared.Layout.TheVariants.{Header, Display, Coloured, Copyright}
use Rattle.layout.specs.declared.JudgedField.{JudgedField}
use Rattle.layout.specs.declared.JudgedField.TheVariants.{Width, Height, Chroma, Precision, Aspect, Rate, Transfer, Matrix, Stereo, CopyrightOwner, CopyrightNumber}
use Rattle.layout.specs.declared.Fault.{Fault}
use Rattle.layout.specs.declared.Fault.TheVariants.{Short, Marker, Stuffing}
use Rattle.layout.specs.declared.Fault.TheVariants as fault
use Rattle.bodies.specs.declared.Scope.{Scope}
use Rattle.bodies.specs.declared.Scope.TheVariants.{Head, Picture}
use Rattle.bodies.specs.declared.CopyrightExtension.{CopyrightExtension}
use Rattle.layout.proofs.LayoutLaws.{fits_length, spelled}
use Rattle.bodies.proofs.NumberLaws.{number_iff, has_number}
use Rattle.bodies.proofs.AnswerLaws.{display_short_lem, display_long, not_short, colour_there}
use Rattle.layout.proofs.BreakLaws.{breaks_if, if_breaks, short_breaks}
use Rattle.bodies.proofs.ExtensionLaws.{answer_refused, record_bad, bad_record, wrapped_bad, header_made, plain_made, coloured_made, display_result}

-- ── records ──

pub copyright_made : (vs : List ℕ) → Fits (fields Copyright) vs → (c : CopyrightExtension) × (copyright_record vs ≡ some c)
unfolding copyright_record fields
copyright_made vs f = (_, ap copyright_record (spelled 11 vs (fits_length (fields Copyright) vs f)))

-- a record is refused exactly where the body breaks its layout
module _ {A : Type 0} (layout : Layout) (make : List ℕ → Option A) (made : (vs : List ℕ) → Fits (fields layout) vs → (a : A) × (make vs ≡ some a)) (body : List ℕ) (why : Fault) where
  record_breaks : (record_of layout make body ≡ Err why) ↔ Breaks layout body why
  record_breaks = ((λ e. breaks_if layout body why (record_bad layout make body why made e)), λ b. bad_record layout make body why (if_breaks layout body why b))

  wrapped_breaks : (wrap : A → ExtensionBody) → ((record_of layout make body >>= (λ a. Ok (wrap a))) ≡ Err why) ↔ Breaks layout body why
  wrapped_breaks wrap = (
    (λ e. record_breaks.0 (wrapped_bad (record_of layout make body) wrap why e)),
    λ b. ap (λ (r : Reading A). r >>= (λ a. Ok (wrap a))) (record_breaks.1 b),
  )

pub header_bad : (body : List ℕ) (why : Fault) → (header_result body ≡ Err why) ↔ Breaks Header body why
header_bad = record_breaks Header header_record header_made

plain_bad : (body : List ℕ) (why : Fault) → (plain_of body ≡ Err why) ↔ Breaks Display body why
unfolding plain_of
plain_bad body why = wrapped_breaks Display plain_record plain_made body why extension.Display

coloured_bad : (body : List ℕ) (why : Fault) → (coloured_of body ≡ Err why) ↔ Breaks Coloured body why
unfolding coloured_of
coloured_bad body why = wrapped_breaks Coloured coloured_record coloured_made body why extension.Display

copyright_bad : (body : List ℕ) (why : Fault) → (copyright_of body ≡ Err why) ↔ Breaks Copyright body why
unfolding copyright_of
copyright_bad body why = wrapped_breaks Copyright copyright_record copyright_made body why extension.Copyright

-- a result that is bad exactly for what is broken is refused with the number and the bit of that
pub refused_iff : {A : Type 0} (r : Reading A) (Broken : Fault → Type 0) → ((why : Fault) → (r ≡ Err why) ↔ Broken why) → (n : ℕ) (carried : List Carried) →
    (answer_of r ≡ refused n carried) ↔ ((why : Fault) × Broken why × (n ≡ fault_number why) × (carried ≡ fault_bit why))
refused_iff r Broken iff n carried = let a = answer_refused r n carried in (
  (λ e. let (why, b, m, c) = a.0 e in (why, (iff why).0 b, m, c)),
  λ h. a.1 (h.0, (iff h.0).1 h.1, h.2, h.3),
)

-- ── display extensions ──

one_is : (b : std.Option ℕ) → is_one b ≡ true → b ≡ std.Some 1
one_is (std.Some b) e = ap std.Some (eqb-true b 1 e)
one_is std.None e = absurd (false≢true e)

pub short_iff : (body : List ℕ) → (display_short body ≡ true) ↔ ShortDisplay body
unfolding display_short
short_iff body = (from_test, to_test)
  where
    from_test : short Display body || (is_one (bit_at (bits_of body) 8) && short Coloured body) ≡ true → ShortDisplay body
    from_test e =
        by_test (short Display body)
        (λ t. inl (ltb-true _ _ t))
        (λ f. let h = and_parts (is_one (bit_at (bits_of body) 8)) (short Coloured body) (rw f at e) in inr (one_is _ h.0, ltb-true _ _ h.1))

    to_test : ShortDisplay body → short Display body || (is_one (bit_at (bits_of body) 8) && short Coloured body) ≡ true
    to_test (inl l) = rw (lt-ltb _ _ l)
    to_test (inr h) = rw (h.0, lt-ltb _ _ h.1) (or-true (short Display body))

pub long_iff : (body : List ℕ) → (display_short body ≡ false) ↔ (¬ ShortDisplay body)
long_iff body = let i = short_iff body in (
  (λ f s. false≢true (sym f ∙ i.1 s)),
  λ n. by_test (display_short body) (λ t. absurd (n (i.0 t))) (λ f. f),
)

module _ (body : List ℕ) (long : ¬ ShortDisplay body) where
  -- a display extension that is not short has its colour bit
  colour_bit : (given : ℕ) × ColourGiven body given × (given < 2)
  colour_bit = colour_there body (not_short body ((long_iff body).1 long))

  display_by_lem : (given : ℕ) → ColourGiven body given → display_of body ≡ cond (eqb given 1) (coloured_of body) (plain_of body)
  display_by_lem given c = display_long body (std.Some given) ((long_iff body).1 long) c

  display_breaks : (why : Fault) → display_of body ≡ Err why → BreaksDisplay body why
  display_breaks why e =
      let (given, c, small) = colour_bit in
      by_test (eqb given 1)
      (λ t.
      let one = eqb-true given 1 t in
      coloured long (rw one at c) ((coloured_bad body why).0 (rw t at (sym (display_by_lem given c) ∙ e))))
      (λ f.
      let not-one = eqb-false given 1 f in
      let none : given ≡ 0 = omega arith in
      plain long (rw none at c) ((plain_bad body why).0 (rw f at (sym (display_by_lem given c) ∙ e))))

pub display_bad : (body : List ℕ) (why : Fault) → (display_of body ≡ Err why) ↔ BreaksDisplay body why
display_bad body why = (from_result, to_result)
  where
    from_result : display_of body ≡ Err why → BreaksDisplay body why
    from_result e =
        by_test (display_short body)
        (λ t. let s : Err Short ≡ Err why = sym (display_short_lem body t) ∙ e in short_display ((short_iff body).0 t) (cc))
        (λ f. display_breaks body ((long_iff body).0 f) why e)

    to_result : BreaksDisplay body why → display_of body ≡ Err why
    to_result (short_display s e) = display_short_lem body ((short_iff body).1 s) ∙ ap Err (sym e)
    to_result (coloured long c b) = display_by_lem body long 1 c ∙ (coloured_bad body why).1 b
    to_result (plain long c b) = display_by_lem body long 0 c ∙ (plain_bad body why).1 b

-- ── extensions ──

-- a body with a byte has a number
pub number_there : (body : List ℕ) → body ≢ [] → (n : ℕ) × (number_of body ≡ Ok n)
number_there body h = let (n, k) = has_number body h in (n, (number_iff body n).1 k)

number_breaks : (scope : Scope) (body : List ℕ) (n : ℕ) (why : Fault) → HasNumber body n → not_copyright scope body n ≡ Err why → BreaksExtension scope body why
number_breaks Head body n why i e =
    by_test (eqb n 2)
    (λ t. breaks.display (subst (HasNumber body) (eqb-true n 2 t) i) refl ((display_bad body why).0 (rw t at e)))
    (λ f. not_err (rw f at e))
number_breaks Picture body n why i e = not_err e

extension_breaks : (scope : Scope) (body : List ℕ) (why : Fault) → extension_result scope body ≡ Err why → BreaksExtension scope body why
unfolding extension_result by_number
extension_breaks scope [] why e = unfold read_at read_on bits_of in empty refl (cc)
extension_breaks scope (byte ∷ body) why e =
    let bytes = byte ∷ body in
    let (n, i) = has_number bytes (λ z. let y : ◌≡◌ {A = ℕ} 0 1 = cc (ap length z) in absurd (omega arith)) in
    let b : by_number scope bytes n ≡ Err why = rw ((number_iff bytes n).1 i) at e in
    by_test (eqb n 4)
    (λ t. breaks.copyright (subst (HasNumber bytes) (eqb-true n 4 t) i) ((copyright_bad bytes why).0 (rw t at b)))
    (λ f. number_breaks scope bytes n why i (rw f at b))

breaks_extension : (scope : Scope) (body : List ℕ) (why : Fault) → BreaksExtension scope body why → extension_result scope body ≡ Err why
unfolding extension_result by_number
breaks_extension scope body why (empty e f) = unfold read_at read_on bits_of in rw (e, f)
breaks_extension scope body why (breaks.copyright i b) = rw ((number_iff body 4).1 i) ((copyright_bad body why).1 b)
breaks_extension scope body why (breaks.display i e b) = rw ((number_iff body 2).1 i, e) ((display_bad body why).1 b)

pub extension_bad : (scope : Scope) (body : List ℕ) (why : Fault) → (extension_result scope body ≡ Err why) ↔ BreaksExtension scope body why
extension_bad scope body why = (extension_breaks scope body why, breaks_extension scope body why)

-- ── SHORT of a display extension ──

-- nothing but its length and colour given make a display extension SHORT
short_display_if : (body : List ℕ) → BreaksDisplay body Short → ShortDisplay body
short_display_if body (short_display s e) = s
short_display_if body (coloured long c b) = inr (c, short_breaks Coloured body b)
short_display_if body (plain long c b) = inl (short_breaks Display body b)

-- VALUE's numbers are those from 20 to 30
pub value_over : (field : JudgedField) → (20 ≤ value_number field) × (value_number field ≤ 30)
unfolding value_number
value_over Width = omega arith
value_over Height = omega arith
value_over Chroma = omega arith
value_over Precision = omega arith
value_over Aspect = omega arith
value_over Rate = omega arith
value_over Transfer = omega arith
value_over Matrix = omega arith
value_over Stereo = omega arith
value_over CopyrightOwner = omega arith
value_over CopyrightNumber = omega arith

-- a fault's number is neither FILED's nor VALUE's
pub fault_apart : (why : Fault) → (1 ≤ fault_number why) × (fault_number why ≢ VALUE)
unfolding fault_number
fault_apart Short = (omega arith, λ e. omega arith)
fault_apart (Marker at) = (omega arith, λ e. omega arith)
fault_apart (fault.Value field at) = let h = value_over field in (omega arith, λ e. omega arith)
fault_apart Stuffing = (omega arith, λ e. omega arith)

-- the number of SHORT is that of no other fault
short_number : (why : Fault) → fault_number why ≡ SHORT → why ≡ Short
unfolding fault_number
short_number Short e = refl
short_number (Marker at) e = absurd (omega arith)
short_number (fault.Value field at) e = absurd (over_short field e)
  where
    over_short : (field : JudgedField) → value_number field ≡ SHORT → ⊥
    over_short field e = let h = value_over field in omega arith
short_number Stuffing e = absurd (omega arith)

pub answers_short : (body : List ℕ) → HasNumber body 2 → extension_of Head body ≡ refused SHORT [] → display_short body ≡ true
unfolding extension_of
answers_short body t e =
    let (why, r, n, c) = (answer_refused (extension_result Head body) SHORT []).0 e in
    let b = (display_bad body why).0 (sym (display_result body t) ∙ r) in
    (short_iff body).1 (short_display_if body (subst (BreaksDisplay body) (short_number why (sym n)) b))

pub short_answers : (body : List ℕ) → HasNumber body 2 → display_short body ≡ true → extension_of Head body ≡ refused SHORT []
unfolding extension_of answer_of fault_number fault_bit
short_answers body t s = ap answer_of (display_result body t ∙ display_short_lem body s)
