-- Reading a body succeeds exactly where the grammar's rule for it holds.
use Rattle.std.proofs.Common.{Ok}
use Prim.Native.Nat.{ℕ}
use mathlib.Core.Path.{◌≡◌, refl, sym, ◌∙◌, ap, subst}
use mathlib.Core.Logic.{◌⊎◌, inl, inr, ◌↔◌}
use mathlib.Core.List.{List}
use mathlib.Core.Bool.{false, cond}
use mathlib.Core.Option.{Option, some}
use native.Mathlib.Omega.{arith}
use borrow.Author.Tests.{eqb-true, eqb-false, eq-eqb, le-ltb}
use lib.Dec.{eqb}
use lib.ListN.{length}
use Rattle.answers.proofs.ResultLaws.{not_ok, bind_ok}
use Rattle.std.specs.Prelude as std
use Rattle.bits.proofs.TestLaws.{by_test}
use Rattle.layout.specs.Reader.{read_value}
use Rattle.bodies.specs.Reader.{record_of, number_of, header_result, by_number, not_copyright, extension_result, display_short, display_of, plain_of, coloured_of, copyright_of}
use Rattle.bodies.specs.Extensions.{numbered, ColourGiven}
use Rattle.bodies.proofs.NumberLaws.{number_iff, number_one, number_byte, numbered_by}
use Rattle.bodies.specs.declared.ExtensionBody.{ExtensionBody}
use Rattle.bodies.specs.declared.ExtensionBody.TheVariants as extensionBody
use Rattle.layout.specs.Layouts.{fields, least_bytes}
use Rattle.layout.specs.Obeys.{Fits, Obeys}
use Rattle.answers.specs.Results.{◌>>=◌}
use Rattle.bodies.specs.Records.{header_record, plain_record, coloured_record, copyright_record}
use Rattle.layout.specs.declared.Layout.{Layout}
use Rattle.layout.specs.declared.Layout.TheVariants.{Header, Display, Coloured, Copyright}
use Rattle.bodies.specs.declared.Scope.{Scope}
use Rattle.bodies.specs.declared.Scope.TheVariants as scope
use Rattle.bodies.specs.declared.SequenceHeader.{SequenceHeader}
use Rattle.bodies.proofs.AnswerLaws.{short_by, not_short, colour_there}
use Rattle.bodies.proofs.AnswerLaws as laws
use Rattle.bodies.proofs.BreakLaws.{copyright_made, number_there}
use Rattle.bodies.proofs.ExtensionLaws.{plain_made, coloured_made, record_if, if_record}
use Rattle.layout.proofs.ReadingLaws.{value_good}
use Rattle.grammar.specs.Grammar.{Extension, IsHeader, IsCopyright, IsDisplay}

-- ── sequence header ──

-- a record is read exactly where the body obeys with values that make it
module _ {A : Type 0} (layout : Layout) (make : List ℕ → Option A) (body : List ℕ) where
  pub record_good : (a : A) → (record_of layout make body ≡ Ok a) ↔ ((vs : List ℕ) × Obeys layout body vs × (make vs ≡ some a))
  record_good a = (record_if layout make body a, λ h. if_record layout make body a h.0 h.1 h.2)

pub header_good : (body : List ℕ) (header : SequenceHeader) → (header_result body ≡ Ok header) ↔ IsHeader body header
header_good body header = record_good Header header_record body header

-- ── numbers ──

two_is : (body : List ℕ) (n : ℕ) → number_of body ≡ Ok n → numbered 2 body ≡ false → eqb n 2 ≡ false
two_is body n e f = sym (numbered_by body n 2 (omega arith) ((number_iff body n).0 e)) ∙ f

-- ── copyright and opaque extensions ──

-- an extension of one layout is read exactly where the body obeys, if values that fit make a record
module _ {A : Type 0} (layout : Layout) (make : List ℕ → Option A) (wrap : A → ExtensionBody) (body : List ℕ)
    (made : (vs : List ℕ) → Fits (fields layout) vs → (a : A) × (make vs ≡ some a)) where
  layout_good : ((x : ExtensionBody) × ((record_of layout make body >>= (λ a. Ok (wrap a))) ≡ Ok x)) ↔ ((vs : List ℕ) × Obeys layout body vs)
  layout_good = (
    (λ h. let r = bind_ok (record_of layout make body) _ h.0 h.1 in let o = (record_good layout make body r.0).0 r.1 in (o.0, o.1)),
    λ h.
        let m = made h.0 h.1.fits in
        (wrap m.0, ap (λ r. r >>= (λ a. Ok (wrap a))) ((record_good layout make body m.0).1 (h.0, h.1, m.1))),
  )

copyright_good : (body : List ℕ) → ((x : ExtensionBody) × (copyright_of body ≡ Ok x)) ↔ IsCopyright body
unfolding copyright_of
copyright_good body = layout_good Copyright copyright_record extensionBody.Copyright body copyright_made

-- an extension that is no display extension where it stands
module _ (body : List ℕ) (p : Scope) (plain : (n : ℕ) → number_of body ≡ Ok n → not_copyright p body n ≡ Ok (extensionBody.Opaque n)) where
  extension_good : ((x : ExtensionBody) × (extension_result p body ≡ Ok x)) ↔ Extension body
  unfolding extension_result by_number
  extension_good = (
    (λ h.
        let r = bind_ok (read_value (number_of body)) _ h.0 h.1 in
        let n = value_good (number_of body) r.0 r.1 in
        record {
          some_byte = number_byte body r.0 ((number_iff body r.0).0 n);
          copyright = λ four.
              let f : r.0 ≡ 4 = number_one body r.0 4 ((number_iff body r.0).0 n) four in
              let c : copyright_of body ≡ Ok h.0 = rw (eq-eqb r.0 4 f) at r.2 in
              (copyright_good body).0 (h.0, c);
        }),
    λ h.
        let n = number_there body h.some_byte in
        let start : extension_result p body ≡ by_number p body n.0 = rw n.1 in
        by_test (eqb n.0 4)
        (λ t.
        let four : number_of body ≡ Ok 4 = n.1 ∙ ap Ok (eqb-true n.0 4 t) in
        let c = (copyright_good body).1 (h.copyright ((number_iff body 4).0 four)) in
        (c.0, start ∙ rw t c.1))
        (λ f. (extensionBody.Opaque n.0, start ∙ rw f (plain n.0 n.1))),
  )

-- after a picture header
pub picture_good : (body : List ℕ) → ((x : ExtensionBody) × (extension_result scope.Picture body ≡ Ok x)) ↔ Extension body
picture_good body = extension_good body scope.Picture (λ n e. refl)

-- in a group's head, where the number is not 2
pub head_good : (body : List ℕ) → numbered 2 body ≡ false → ((x : ExtensionBody) × (extension_result scope.Head body ≡ Ok x)) ↔ Extension body
head_good body f = extension_good body scope.Head (λ n e. let two = two_is body n e f in rw two)

-- ── display extensions ──

-- a display extension is not short
pub display_long : (body : List ℕ) (x : ExtensionBody) → display_of body ≡ Ok x → display_short body ≡ false
unfolding display_of
display_long body x e = by_test (display_short body) (λ t. not_ok (rw t at e)) (λ f. f)

plain_good : (body : List ℕ) → ((x : ExtensionBody) × (plain_of body ≡ Ok x)) ↔ ((vs : List ℕ) × Obeys Display body vs)
unfolding plain_of
plain_good body = layout_good Display plain_record extensionBody.Display body plain_made

coloured_good : (body : List ℕ) → ((x : ExtensionBody) × (coloured_of body ≡ Ok x)) ↔ ((vs : List ℕ) × Obeys Coloured body vs)
unfolding coloured_of
coloured_good body = layout_good Coloured coloured_record extensionBody.Display body coloured_made

-- by the colour bit, the one layout or the other
plain_display : (body vs : List ℕ) → ColourGiven body 0 → Obeys Display body vs → display_of body ≡ plain_of body
unfolding least_bytes
plain_display body vs c h = laws.display_long body (std.Some 0) (short_by body (std.Some 0) h.long c) c

coloured_display : (body vs : List ℕ) → ColourGiven body 1 → Obeys Coloured body vs → display_of body ≡ coloured_of body
unfolding least_bytes
coloured_display body vs c h =
    let l = h.long in
    laws.display_long body (std.Some 1) (short_by body (std.Some 1) (omega arith) c ∙ le-ltb (length body) 9 l) c

pub display_good : (body : List ℕ) → ((x : ExtensionBody) × (display_of body ≡ Ok x)) ↔ IsDisplay body
display_good body = (from_result, λ h. from_layout h.0 h.1)
  where
    from_result : ((x : ExtensionBody) × (display_of body ≡ Ok x)) → IsDisplay body
    from_result (x, e) =
        let f = display_long body x e in
        let (given, c, small) = colour_there body (not_short body f) in
        let r : cond (eqb given 1) (coloured_of body) (plain_of body) ≡ Ok x = sym (laws.display_long body (std.Some given) f c) ∙ e in
        by_test (eqb given 1)
        (λ t. let o = (coloured_good body).0 (x, rw t at r) in (o.0, inr (subst (ColourGiven body) (eqb-true given 1 t) c, o.1)))
        (λ g.
        let not-one = eqb-false given 1 g in
        let none : given ≡ 0 = omega arith in
        let o = (plain_good body).0 (x, rw g at r) in (o.0, inl (subst (ColourGiven body) none c, o.1)))

    from_layout : (vs : List ℕ) → (ColourGiven body 0 × Obeys Display body vs) ⊎ (ColourGiven body 1 × Obeys Coloured body vs) → (x : ExtensionBody) × (display_of body ≡ Ok x)
    from_layout vs (inl (c, h)) = let x = (plain_good body).1 (vs, h) in (x.0, plain_display body vs c h ∙ x.1)
    from_layout vs (inr (c, h)) = let x = (coloured_good body).1 (vs, h) in (x.0, coloured_display body vs c h ∙ x.1)
