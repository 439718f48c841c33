-- An extension's number, read, is the one whose bits the body begins with; so are the tests of it.
use Rattle.std.proofs.Common.{Result, Ok, Err}
use Prim.Native.Nat.{ℕ, ◌<◌}
use mathlib.Core.Path.{◌≡◌, refl, sym, ap, ◌∙◌}
use mathlib.Core.Logic.{◌≢◌, ◌↔◌}
use mathlib.Core.List.{List, [], ◌∷◌, ◌++◌}
use mathlib.Core.Bool.{Bool, true, false, ◌&&◌, not}
use native.Mathlib.Omega.{arith}
use borrow.Author.Tests.{eqb-true, eqb-false, eq-eqb, ne_eqb, not-true}
use lib.Dec.{eqb}
use lib.ListN.{length, take, drop, take-append-drop}
use lib.Seq.{take-length, take_at}
use Rattle.bits.specs.Bits.{bits_in, bits_of, payload, read_on, read_at}
use Rattle.answers.proofs.ResultLaws.{ok_same}
use Rattle.std.proofs.lemmas.Bool.{and_parts}
use Rattle.bits.proofs.TestLaws.{by_test, contrary}
use Rattle.bits.proofs.BitLaws.{length_in}
use Rattle.bits.proofs.Main.{read_exactly}
use Rattle.layout.specs.Reader.{Reading, read_value}
use Rattle.bodies.specs.Extensions.{starts_with, numbered, HasNumber, is_opaque}
use Rattle.bodies.specs.Reader.{number_of}
use Rattle.bodies.specs.declared.Scope.{Scope}
use Rattle.bodies.specs.declared.Scope.TheVariants.{Head, Picture}

-- ── the number ──

starts_take : (xs l : List ℕ) → starts_with xs l ≡ true → take (length xs) l ≡ xs
starts_take [] l e = refl
starts_take (x ∷ xs) [] e = let z : ◌≡◌ {A = ℕ} 0 1 = cc in absurd (omega arith)
starts_take (x ∷ xs) (y ∷ l) e =
    let (here, rest) = and_parts (eqb x y) (starts_with xs l) e in
    rw (eqb-true x y here, starts_take xs l rest)

take_starts : (xs l : List ℕ) → take (length xs) l ≡ xs → starts_with xs l ≡ true
take_starts [] l e = refl
take_starts (x ∷ xs) [] e = let z : ◌≡◌ {A = ℕ} 0 1 = cc in absurd (omega arith)
take_starts (x ∷ xs) (y ∷ l) e = let i : x ≡ y = cc in let r : take (length xs) l ≡ xs = cc in rw (eq-eqb x y i, take_starts xs l r)

numbered_iff : (n : ℕ) (body : List ℕ) → (numbered n body ≡ true) ↔ (take 4 (bits_of body) ≡ bits_in 4 n)
unfolding numbered
numbered_iff n body =
    let w = length_in 4 n in (
      (λ e. ap (λ (k : ℕ). take k (bits_of body)) (sym w) ∙ starts_take (bits_in 4 n) (bits_of body) e),
      λ e. take_starts (bits_in 4 n) (bits_of body) (ap (λ (k : ℕ). take k (bits_of body)) w ∙ e),
    )

-- the number is the one whose four bits the body begins with
pub bits_iff : (body : List ℕ) (n : ℕ) → HasNumber body n ↔ ((n < 16) × ((rest : List ℕ) × (bits_of body ≡ bits_in 4 n ++ rest)))
bits_iff body n = (
  (λ h.
      let e = (numbered_iff n body).0 h.bits in
      (h.small, (drop 4 (bits_of body), sym (take-append-drop 4 (bits_of body)) ∙ ap (λ (l : List ℕ). l ++ drop 4 (bits_of body)) e))),
  λ (k, (rest, e)). record { small = k; bits = (numbered_iff n body).1 (ap (take 4) e ∙ take_at (bits_in 4 n) rest 4 (length_in 4 n)) },
)

-- the read's number is the body's
pub number_iff : (body : List ℕ) (n : ℕ) → (number_of body ≡ Ok n) ↔ HasNumber body n
number_iff body n =
    let all : payload body (length (bits_of body)) ≡ bits_of body = take-length (bits_of body) in
    let r = read_exactly body (length (bits_of body)) 0 4 n in (
      (λ e. let x = r.0 (ap (λ (l : List ℕ). read_at l 0 4) all ∙ e) in
          record { small = x.0; bits = (numbered_iff n body).1 (ap (take 4) (sym all) ∙ x.1) }),
      λ h. ap (λ (l : List ℕ). read_at l 0 4) (sym all) ∙ r.1 (h.small, ap (take 4) all ∙ (numbered_iff n body).0 h.bits),
    )

-- a body has one number
pub number_one : (body : List ℕ) (m n : ℕ) → HasNumber body m → HasNumber body n → m ≡ n
number_one body m n h k = ok_same (sym ((number_iff body m).1 h) ∙ (number_iff body n).1 k)

-- a body with a byte has one
pub has_number : (body : List ℕ) → body ≢ [] → (n : ℕ) × HasNumber body n
unfolding read_at read_on bits_of bits_in
has_number [] h = absurd (h refl)
has_number (byte ∷ body) h = (_, (number_iff (byte ∷ body) _).0 refl)

-- and no other has
pub number_byte : (body : List ℕ) (n : ℕ) → HasNumber body n → body ≢ []
unfolding read_at read_on bits_of
number_byte [] n h e = let z : ◌≡◌ {A = ℕ} 0 1 = cc ((number_iff [] n).1 h) in omega arith
number_byte (byte ∷ body) n h e = let z : ◌≡◌ {A = ℕ} 0 1 = cc in omega arith

-- ── tests of the number ──

-- whether the number that was read is n
abbrev pub is_read : {E : Type 0} → ℕ → Result ℕ E → Bool
is_read n (Ok m) = eqb m n
is_read n (Err why) = false

not_read : (n : ℕ) (r : Result ℕ ℕ) → r ≢ Ok n → is_read n r ≡ false
not_read n (Ok m) h = ne_eqb m n (λ e. h (ap Ok e))
not_read n (Err m) h = refl

pub numbered_read : (body : List ℕ) (n : ℕ) → n < 16 → numbered n body ≡ is_read n (number_of body)
numbered_read body n k =
    by_test (numbered n body)
    (λ t. t ∙ sym (ap (is_read n) ((number_iff body n).1 (record { small = k; bits = t })) ∙ eq-eqb n n refl))
    (λ f. f ∙ sym (not_read n (number_of body) (λ e. contrary (numbered n body) ((number_iff body n).0 e).bits f)))

-- the same with a number that is not there as SHORT
read_alike : (n : ℕ) (r : Result ℕ ℕ) → is_read n r ≡ is_read n (read_value r)
read_alike n (Ok m) = refl
read_alike n (Err m) = refl

pub numbered_two : (body : List ℕ) → numbered 2 body ≡ is_read 2 (read_value (number_of body))
numbered_two body = numbered_read body 2 (omega arith) ∙ read_alike 2 (number_of body)

pub numbered_by : (body : List ℕ) (m n : ℕ) → n < 16 → HasNumber body m → numbered n body ≡ eqb m n
numbered_by body m n k h = numbered_read body n k ∙ ap (is_read n) ((number_iff body m).1 h)

-- whether the number n is opaque where it stands
abbrev pub opaque_number : Scope → ℕ → Bool
opaque_number Head n = not (eqb n 4) && not (eqb n 2)
opaque_number Picture n = not (eqb n 4)

abbrev pub opaque_read : Scope → Reading ℕ → Bool
opaque_read scope (Ok n) = opaque_number scope n
opaque_read scope (Err why) = true

pub opaque_read_lem : (scope : Scope) (body : List ℕ) → is_opaque scope body ≡ opaque_read scope (read_value (number_of body))
unfolding is_opaque
opaque_read_lem Head body = rw (numbered_read body 4 (omega arith), numbered_read body 2 (omega arith)) (in_head (number_of body))
  where
    in_head : (r : Result ℕ ℕ) → not (is_read 4 r) && not (is_read 2 r) ≡ opaque_read Head (read_value r)
    in_head (Ok n) = refl
    in_head (Err m) = refl
opaque_read_lem Picture body = rw (numbered_read body 4 (omega arith)) (after_picture (number_of body))
  where
    after_picture : (r : Result ℕ ℕ) → not (is_read 4 r) ≡ opaque_read Picture (read_value r)
    after_picture (Ok n) = refl
    after_picture (Err m) = refl

opaque_number_lem : (scope : Scope) (n : ℕ) → (opaque_number scope n ≡ true) ↔ ((n ≢ 4) × (scope ≡ Head → n ≢ 2))
opaque_number_lem Head n = (
  (λ e. let (four, two) = and_parts (not (eqb n 4)) (not (eqb n 2)) e in (eqb-false n 4 (not-true _ four), λ p. eqb-false n 2 (not-true _ two))),
  λ h. rw (ne_eqb n 4 h.0, ne_eqb n 2 (h.1 refl)),
)
opaque_number_lem Picture n = (
  (λ e. (eqb-false n 4 (not-true _ e), λ p. let z : ◌≡◌ {A = ℕ} 0 1 = cc in absurd (omega arith))),
  λ h. ap not (ne_eqb n 4 h.0),
)

-- an extension of number n is opaque where n is neither 4 nor, in a head, 2
pub opaque_test : (scope : Scope) (body : List ℕ) (n : ℕ) → HasNumber body n → (is_opaque scope body ≡ true) ↔ ((n ≢ 4) × (scope ≡ Head → n ≢ 2))
opaque_test scope body n h =
    let e = opaque_read_lem scope body ∙ ap (λ (r : Result ℕ ℕ). opaque_read scope (read_value r)) ((number_iff body n).1 h) in
    let i = opaque_number_lem scope n in ((λ t. i.0 (sym e ∙ t)), λ k. e ∙ i.1 k)
