-- Macroblock rows by progressive: what is known of them elsewhere is cited from here.
use Prim.Native.Nat.{◌+◌, ◌*◌, ◌/◌, ◌≤◌}
use mathlib.Core.Path.{◌≡◌, refl}
use mathlib.Core.Logic.{◌≢◌}
use mathlib.Core.Bool.{Bool, true, false}
use native.Mathlib.Omega.{arith}
use lib.Dec.{eqb}
use borrow.Author.Tests.{eq-eqb, ne_eqb, eqb-true, eqb-false}
use Rattle.bodies.specs.declared.SequenceHeader.{SequenceHeader}
use Rattle.macroblocks.specs.Macroblocks.{macroblock_rows}

pub interlaced_rows : (h : SequenceHeader) → h.progressive ≡ 0 → macroblock_rows h ≡ 2 * ((h.vertical + 31) / 32)
unfolding macroblock_rows
interlaced_rows h e = simp (eq-eqb h.progressive 0 e)

pub progressive_rows : (h : SequenceHeader) → h.progressive ≢ 0 → macroblock_rows h ≡ (h.vertical + 15) / 16
unfolding macroblock_rows
progressive_rows h e = simp (ne_eqb h.progressive 0 e)

-- A picture of any lines has a row.
pub some_row : (h : SequenceHeader) → h.vertical ≢ 0 → 1 ≤ macroblock_rows h
some_row h n = by (eqb h.progressive 0) refl
  where
    by : (interlaced : Bool) → eqb h.progressive 0 ≡ interlaced → 1 ≤ macroblock_rows h
    by true e = let k = interlaced_rows h (eqb-true h.progressive 0 e) in omega arith
    by false e = let k = progressive_rows h (eqb-false h.progressive 0 e) in omega arith
