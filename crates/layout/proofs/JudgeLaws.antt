-- A body's verdict, in its parts.
use Rattle.std.proofs.Common.{Ok, Err}
use Prim.Native.Nat.{ℕ, ◌*◌, ◌≤◌, ◌<◌}
use mathlib.Core.Path.{◌≡◌, refl, ap, ◌∙◌}
use mathlib.Core.List.{List}
use mathlib.Core.Bool.{Bool, not}
use borrow.Author.Tests.{lt-ltb, le-ltb}
use lib.ListN.{length, drop}
use Rattle.bits.specs.Bits.{bits_of}
use Rattle.layout.specs.Layouts.{fields, bit_count, least_bytes}
use Rattle.layout.specs.Reader.{Verdict, Reading, ◌>>◌, refuse_if, both, values_of, cross, judged, stuffing, ended, reading}
use Rattle.answers.specs.Results.{◌>>=◌}
use Rattle.layout.specs.declared.Layout.{Layout}
use Rattle.layout.specs.declared.Fault.TheVariants.{Short, Stuffing}

-- ── the end ──

pub ended_by : (layout : Layout) (body : List ℕ) (k : ℕ) (t : Bool) → k * 8 ≡ bit_count (fields layout) → t ≡ stuffing (drop (k * 8) (bits_of body)) →
    ended layout body ≡ refuse_if (not t) Stuffing
unfolding ended
ended_by layout body k t e s = rw (← e, ← s)

-- no rule across fields is broken: the end decides
pub end_decides : (layout : Layout) (body vs : List ℕ) (k : ℕ) (t : Bool) → cross layout vs ≡ Ok tt → k * 8 ≡ bit_count (fields layout) → t ≡ stuffing (drop (k * 8) (bits_of body)) →
    both (cross layout vs) (ended layout body) ≡ refuse_if (not t) Stuffing
end_decides layout body vs k t f e s = ap (λ (v : Verdict). both v (ended layout body)) f ∙ ended_by layout body k t e s

-- ── the whole ──

pub reading_short : (layout : Layout) (body : List ℕ) → length body < least_bytes layout → reading layout body ≡ Err Short
unfolding reading
reading_short layout body h = rw (lt-ltb _ _ h)

-- what stands after the length test
abbrev pub checked : Layout → List ℕ → Reading (List ℕ) → Reading (List ℕ)
checked layout body values = values >>= (λ vs. judged layout vs >> (ended layout body >> Ok vs))

pub reading_long : (layout : Layout) (body : List ℕ) → least_bytes layout ≤ length body → reading layout body ≡ checked layout body (values_of (fields layout) 0 (bits_of body))
unfolding reading
reading_long layout body h = rw (le-ltb _ _ h)

pub both_says : (v w : Verdict) (vs : List ℕ) → (both v w >> Ok vs) ≡ (v >> (w >> Ok vs))
both_says (Ok fine) w vs = refl
both_says (Err fault) w vs = refl
