-- Reading a body that is long enough is taking its fields, then the rules across them, then its end.
use Rattle.std.proofs.Common.{Ok, Err}
use Prim.Native.Nat.{ℕ, ◌≤◌}
use mathlib.Core.Path.{◌≡◌, refl, sym, ap, ◌∙◌, subst}
use mathlib.Core.List.{List}
use lib.ListN.{length}
use Rattle.answers.specs.Results.{◌>>=◌}
use Rattle.answers.proofs.ResultLaws.{ok_same}
use Rattle.bits.specs.Bits.{bits_of}
use Rattle.layout.specs.Layouts.{fields, least_bytes}
use Rattle.layout.specs.Reader.{Verdict, Reading, ◌>>◌, both, judge, cross, judged, ended, reading}
use Rattle.layout.specs.Inside.{taken_from}
use Rattle.layout.specs.declared.Layout.{Layout}
use Rattle.layout.proofs.LayoutLaws.{fits_length}
use Rattle.layout.proofs.ReadingLaws.{taken_judged}
use Rattle.layout.proofs.JudgeLaws.{both_says}
use Rattle.layout.proofs.ObeyLaws.{then_good}
use Rattle.layout.proofs.BreakLaws.{holds, held_read, held_reading}

-- what stands after the fields
abbrev pub across : Layout → List ℕ → Reading (List ℕ) → Reading (List ℕ)
across layout body values = values >>= (λ vs. cross layout vs >> (ended layout body >> Ok vs))

both_then : (v w : Verdict) (layout : Layout) (body vs : List ℕ) → w ≡ cross layout vs → (both v w >> (ended layout body >> Ok vs)) ≡ across layout body (v >> Ok vs)
both_then (Ok tt) w layout body vs e = ap (λ (x : Verdict). x >> (ended layout body >> Ok vs)) e
both_then (Err why) w layout body vs e = refl

module _ (layout : Layout) (body : List ℕ) (long : least_bytes layout ≤ length body) where
  abbrev vs : List ℕ
  vs = (holds layout body long).0

  taken_is : taken_from (fields layout) 0 (bits_of body) ≡ (judge (fields layout) 0 vs >> Ok vs)
  taken_is = taken_judged (fields layout) 0 (bits_of body) vs (held_read layout body vs _ (holds layout body long).1)

  pub reading_taken : reading layout body ≡ across layout body (taken_from (fields layout) 0 (bits_of body))
  unfolding judged
  reading_taken =
      held_reading layout body vs _ (holds layout body long).1
      ∙ both_then (judge (fields layout) 0 vs) (cross layout vs) layout body vs refl
      ∙ ap (across layout body) (sym taken_is)

  -- a body whose values are taken is what judging them finds
  pub reading_judged : (us : List ℕ) → taken_from (fields layout) 0 (bits_of body) ≡ Ok us → reading layout body ≡ (both (cross layout us) (ended layout body) >> Ok us)
  reading_judged us e = reading_taken ∙ ap (across layout body) e ∙ sym (both_says (cross layout us) (ended layout body) us)

  -- as many values are taken as there are fields
  pub taken_length : (us : List ℕ) → taken_from (fields layout) 0 (bits_of body) ≡ Ok us → length us ≡ length (fields layout)
  taken_length us e =
      let t = then_good (judge (fields layout) 0 vs) (Ok vs) us (sym taken_is ∙ e) in
      subst (λ (l : List ℕ). length l ≡ length (fields layout)) (ok_same t.1) (fits_length (fields layout) vs (holds layout body long).1.fits)
