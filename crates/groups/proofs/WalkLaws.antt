-- The unit at an offset, and those after it.
use Prim.Native.Nat.{ℕ, ◌≤◌, ◌<◌, ◌+◌}
use mathlib.Core.Path.{◌≡◌, ◌∙◌, ap}
use mathlib.Core.List.{List, [], ◌∷◌}
use mathlib.Core.Bool.{true, false}
use lib.Dec.{ltb}
use lib.ListN.{length, drop}
use lib.Seq.{drop-length}
use borrow.Author.Tests.{ltb-true, ltb-false}
use native.Mathlib.Omega.{arith}
use Rattle.bits.proofs.TestLaws.{by_test}
use Rattle.startcode.specs.Prefix.{begins, next_prefix}
use Rattle.startcode.proofs.PrefixLaws.{search_start, search_hit}
use Rattle.grammar.specs.Reader.{cut}
use Rattle.grammar.proofs.WalkLaws.{prefix_fits, chunks_cut, chunks_overlap, unit_between, next_fits, chunks_unit, next_begins}
use Rattle.groups.specs.Inside.{units_in, units_from, Here}

from_chunks : (s : List ℕ) (at : ℕ) (chunks : List (List ℕ)) → (cut (drop at s)).chunks ≡ chunks → units_from s at ≡ units_in chunks
unfolding units_from
from_chunks s at chunks e = ap units_in e

-- ── the end ──

no_units : (s : List ℕ) → units_from s (length s) ≡ []
unfolding units_from units_in cut
no_units s = rw drop-length

cut_units : (s : List ℕ) (at : ℕ) → begins (drop at s) ≡ true → at + 3 ≡ length s → units_from s at ≡ []
unfolding units_in
cut_units s at b e = from_chunks s at _ (chunks_cut s at b e)

pub units_end : (s : List ℕ) (at : ℕ) → Here s at → length s ≤ at + 3 → units_from s at ≡ []
units_end s at h l =
    by_test (ltb at (length s))
    (λ t.
    let b = h.prefix (ltb-true at (length s) t) in
    let f = prefix_fits s at b in
    cut_units s at b (omega arith))
    (λ f.
    let k = ltb-false at (length s) f in
    let e : at ≡ length s = omega (arith, h.inside) in
    ap (units_from s) e ∙ no_units s)

-- ── a unit ──

module _ (s : List ℕ) (at : ℕ) (h : Here s at) (l : at + 3 < length s) where
  abbrev next : ℕ
  next = next_prefix s (at + 3)

  prefixed : begins (drop at s) ≡ true
  prefixed = h.prefix (omega arith)

  over_next : begins (drop (at + 3) s) ≡ true → next ≡ at + 3
  over_next b = search_start s (at + 3) ∙ search_hit s (at + 3) l b

  over_units : begins (drop (at + 3) s) ≡ true → units_from s at ≡ []
  unfolding units_in
  over_units b = from_chunks s at _ (chunks_overlap s at prefixed b)

  unit_units : begins (drop (at + 3) s) ≡ false → units_from s at ≡ unit_between s at next ∷ units_from s next
  unfolding units_in units_from
  unit_units b = from_chunks s at _ (chunks_unit s at prefixed l b)

  -- an empty chunk is no unit
  pub units_none : (end : ℕ) → end ≡ next → ¬ ((at + 4 ≤ end) × (end ≤ length s)) → units_from s at ≡ []
  units_none end e n =
      by_test (begins (drop (at + 3) s)) over_units (λ f. let d = next_fits s at prefixed l f in absurd (n (omega (arith, d.0), omega (arith, d.1))))

  -- the unit, and where the next one begins
  pub units_more : (end : ℕ) → end ≡ next → at + 4 ≤ end → (units_from s at ≡ unit_between s at end ∷ units_from s end) × Here s end
  units_more end e k =
      by_test (begins (drop (at + 3) s))
      (λ t. let o = over_next t in absurd (omega arith))
      (λ f.
      rw e (unit_units f, record { inside = (next_fits s at prefixed l f).1; prefix = next_begins s at prefixed l f }))
