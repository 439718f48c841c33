-- The laws of answers: records, extensions by their number and colour bit.
use Rattle.std.proofs.Common.{Ok, Err}
use Rattle.std.specs.Prelude as std
use Prim.Native.Nat.{ℕ, zero, suc, ◌≤◌, ◌<◌}
use mathlib.Core.Path.{◌≡◌, refl, sym, ap, ◌∙◌}
use mathlib.Core.List.{List, [], ◌∷◌}
use mathlib.Core.Bool.{Bool, true, false, cond, ◌&&◌, false≢true}
use mathlib.Core.Option.{Option, some}
use native.Mathlib.Omega.{arith}
use borrow.Author.Tests.{le-ltb, ltb-false}
use lib.Dec.{eqb, ltb}
use lib.ListN.{length, get_or, take}
use lib.Seq.{drop-cons}
use Rattle.bits.specs.Bits.{bits_of, payload, bit_at}
use Rattle.bits.proofs.TestLaws.{by_test}
use Rattle.bits.proofs.BitLaws.{length_bits, all_bits, bit_here, bit_small}
use Rattle.layout.specs.Layouts.{fields, least_bytes}
use Rattle.layout.specs.Obeys.{Fits}
use Rattle.layout.specs.Reader.{Reading, ◌>>◌, refuse_if, reading}
use Rattle.bodies.specs.Reader.{recorded, record_of, plain_of, coloured_of, is_one, read_bit, display_short, display_of}
use Rattle.answers.specs.Results.{◌>>=◌, map_ok}
use Rattle.bodies.specs.Extensions.{ColourGiven}
use Rattle.bodies.specs.declared.ExtensionBody.{ExtensionBody}
use Rattle.layout.specs.declared.Layout.{Layout}
use Rattle.layout.specs.declared.Fault.{Fault}
use Rattle.layout.specs.declared.Fault.TheVariants.{Short}
use Rattle.layout.proofs.ObeyLaws.{obeys_if}

-- ── a body that was read ──

module _ (layout : Layout) (body : List ℕ) (r : Reading (List ℕ)) (says : map_ok (take (length (fields layout))) r ≡ reading layout body) where
  pub record_refused : {A : Type 0} (make : List ℕ → Option A) (why : Fault) → r ≡ Err why → record_of layout make body ≡ Err why
  unfolding record_of
  record_refused make why e = ap (λ (x : Reading (List ℕ)). x >>= (λ vs. recorded (make vs))) (sym says ∙ ap (map_ok (take (length (fields layout)))) e)

  module _ (values : List ℕ) (e : r ≡ Ok values) where
    read_is : reading layout body ≡ Ok (take (length (fields layout)) values)
    read_is = sym says ∙ ap (map_ok (take (length (fields layout)))) e

    pub held : Fits (fields layout) (take (length (fields layout)) values)
    held = (obeys_if layout body (take (length (fields layout)) values) read_is).fits

    pub record_made : {A : Type 0} (make : List ℕ → Option A) (a : A) → make (take (length (fields layout)) values) ≡ some a → record_of layout make body ≡ Ok a
    unfolding record_of
    record_made make a m = ap (λ (x : Reading (List ℕ)). x >>= (λ vs. recorded (make vs))) read_is ∙ ap recorded m

-- ── display extensions ──

pub bit_within : (n place : ℕ) (l : List ℕ) → place < n → bit_at (take n l) place ≡ bit_at l place
unfolding bit_at
bit_within zero place l h = absurd (omega arith)
bit_within (suc n) place [] h = refl
bit_within (suc n) zero (b ∷ l) h = refl
bit_within (suc n) (suc place) (b ∷ l) h = bit_within n place l (omega arith)

-- bit 8 is one of the first nine
pub bit_eight : (body : List ℕ) → bit_at (payload body 9) 8 ≡ bit_at (bits_of body) 8
bit_eight body = bit_within 9 8 (bits_of body) (omega arith)

pub short_by : (body : List ℕ) (b : std.Option ℕ) → 6 ≤ length body → bit_at (bits_of body) 8 ≡ b → display_short body ≡ is_one b && ltb (length body) 9
unfolding display_short least_bytes
short_by body b h e = rw (le-ltb _ _ h) (ap (λ (x : std.Option ℕ). is_one x && ltb (length body) 9) e)

abbrev by_colour : List ℕ → std.Option ℕ → Reading ExtensionBody
by_colour body b = read_bit b >>= (λ colour. cond (eqb colour 1) (coloured_of body) (plain_of body))

pub display_short_lem : (body : List ℕ) → display_short body ≡ true → display_of body ≡ Err Short
unfolding display_of
display_short_lem body e = ap (λ (t : Bool). refuse_if t Short >> by_colour body (bit_at (bits_of body) 8)) e

pub display_long : (body : List ℕ) (b : std.Option ℕ) → display_short body ≡ false → bit_at (bits_of body) 8 ≡ b → display_of body ≡ (read_bit b >>= (λ colour. cond (eqb colour 1) (coloured_of body) (plain_of body)))
unfolding display_of
display_long body b e f = ap (λ (t : Bool). refuse_if t Short >> by_colour body (bit_at (bits_of body) 8)) e ∙ ap (by_colour body) f

pub not_short : (body : List ℕ) → display_short body ≡ false → 6 ≤ length body
unfolding display_short least_bytes
not_short body e = by_test (ltb (length body) 6) (λ t. absurd (false≢true (sym (rw t at e)))) (ltb-false (length body) 6)

-- a body that is not short has its colour bit
pub colour_there : (body : List ℕ) → 6 ≤ length body → (given : ℕ) × ColourGiven body given × (given < 2)
colour_there body six =
    let l = length_bits body in
    let d = drop-cons (bits_of body) 8 0 (omega arith) in
    (get_or (bits_of body) 8 0, sym (bit_here (bits_of body) 8 _ _ d), bit_small (bits_of body) 8 _ _ (all_bits body) d)
