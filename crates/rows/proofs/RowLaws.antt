-- Laws of rows: the row at an index, by threes of words, and what follows for its body.
use Prim.Native.Nat.{ℕ, zero, suc, ◌+◌, ◌/◌, ◌≤◌, ◌<◌}
use mathlib.Core.Path.{◌≡◌, refl, sym, ap, ◌∙◌}
use mathlib.Core.List.{List, [], ◌∷◌}
use mathlib.Core.Bool.{Bool, true, false, cond}
use native.Mathlib.Omega.{arith}
use borrow.Author.Tests.{ltb-true, ltb-false, leb-true, le-leb, lt-leb}
use lib.Dec.{ltb}
use lib.ListN.{length, get_or}
use Rattle.std.proofs.Common.{Option, Some, None}
use Rattle.std.specs.Option.{option_map}
use Rattle.std.specs.Simd.{first_chunks}
use Rattle.bits.proofs.TestLaws.{by_test}
use Rattle.grammar.specs.Rows.{Row}
use Rattle.rows.specs.declared.Body.{Body}
use Rattle.rows.specs.Rows.{held_row, in_stream, if_in_stream, existing, is_row, body_of}

-- the row of three words
abbrev pub row_of : List ℕ → Row
row_of ws = record { code = get_or ws 0 0; offset = get_or ws 1 0; length = get_or ws 2 0 }

pub row_held : (n : ℕ) (ws : List ℕ) (i : ℕ) (d : List ℕ) → n ≡ length ws / 3 → i < n → held_row ws i ≡ Some (row_of (get_or (first_chunks 3 n ws) i d))
unfolding held_row
row_held zero ws i d e h = absurd (omega arith)
row_held (suc n) [] i d e h = absurd (omega arith)
row_held (suc n) (a ∷ []) i d e h = absurd (omega arith)
row_held (suc n) (a ∷ b ∷ []) i d e h = absurd (omega arith)
row_held (suc n) (a ∷ b ∷ c ∷ ws) zero d e h = refl
row_held (suc n) (a ∷ b ∷ c ∷ ws) (suc i) d e h = row_held n ws i d (omega arith) (omega arith)

pub row_lacking : (ws : List ℕ) (i : ℕ) → length ws / 3 ≤ i → held_row ws i ≡ None
unfolding held_row
row_lacking [] i h = refl
row_lacking (a ∷ []) i h = refl
row_lacking (a ∷ b ∷ []) i h = refl
row_lacking (a ∷ b ∷ c ∷ ws) zero h = absurd (omega arith)
row_lacking (a ∷ b ∷ c ∷ ws) (suc i) h = row_lacking ws i (omega arith)

pub held_exactly : (ws : List ℕ) (i : ℕ) → is_row (held_row ws i) ≡ ltb i (length ws / 3)
held_exactly ws i =
    by_test (ltb i (length ws / 3))
    (λ t. ap is_row (row_held (length ws / 3) ws i [] refl (ltb-true _ _ t)) ∙ sym t)
    (λ f. ap is_row (row_lacking ws i (ltb-false _ _ f)) ∙ sym f)

-- ── the body of row i ──

-- the body of a row that is held: within the stream, or not
pub body_there : (s ws : List ℕ) (i : ℕ) (r : Row) → held_row ws i ≡ Some r → r.offset + 4 + r.length ≤ length s → Some (body_of r) ≡ option_map body_of (existing s ws i)
unfolding existing in_stream
body_there s ws i r e h = rw (e, le-leb _ _ h)

pub body_past : (s ws : List ℕ) (i : ℕ) (r : Row) → held_row ws i ≡ Some r → length s < r.offset + 4 + r.length → None ≡ option_map body_of (existing s ws i)
unfolding existing in_stream
body_past s ws i r e h = rw (e, lt-leb _ _ h)

pub body_lacking : (s ws : List ℕ) (i : ℕ) → held_row ws i ≡ None → None ≡ option_map body_of (existing s ws i)
unfolding existing
body_lacking s ws i e = sym (ap (λ o. option_map body_of (if_in_stream s o)) e)

-- a body is within the stream
pub body_inside : (s ws : List ℕ) (i : ℕ) (b : Body) → Some b ≡ option_map body_of (existing s ws i) → b.start + b.length ≤ length s
unfolding existing in_stream
body_inside s ws i b e = inside (held_row ws i) e
  where
    of_test : (r : Row) (t : Bool) → in_stream s r ≡ t → Some b ≡ option_map body_of (cond t (Some r) None) → b.start + b.length ≤ length s
    of_test r true h e = let k = leb-true _ _ h in let f : b ≡ body_of r = cc in rw f k
    of_test r false h e = absurd cc

    inside : (o : Option Row) → Some b ≡ option_map body_of (if_in_stream s o) → b.start + b.length ≤ length s
    inside None e = absurd cc
    inside (Some r) e = of_test r (in_stream s r) refl e
