-- What is proved of macroblocks beyond the contracts of the functions.
use Prim.Native.Nat.{◌+◌, ◌%◌, ◌≤◌}
use mathlib.Core.Path.{◌≡◌}
use mathlib.Core.Logic.{◌≢◌, ◌↔◌}
use mathlib.Core.Bool.{true}
use native.Mathlib.Omega.{arith}
use borrow.Author.Tests.{leb-true, le-leb}
use Rattle.bodies.specs.declared.SequenceHeader.{SequenceHeader}
use Rattle.macroblocks.specs.Macroblocks.{macroblock_rows, slices_tested}
use Rattle.macroblocks.proofs.RowLaws.{interlaced_rows, progressive_rows}

-- Two headers of one vertical size, i with progressive 0 and p with another: their rows part exactly where vertical size modulo 32
-- is 1 to 16, and there i has one more.
module _ (i p : SequenceHeader) (interlaced : i.progressive ≡ 0) (progressive : p.progressive ≢ 0) (same : i.vertical ≡ p.vertical) where
  pub rows_part : (macroblock_rows i ≢ macroblock_rows p) ↔ ((1 ≤ i.vertical % 32) × (i.vertical % 32 ≤ 16))
  rows_part = let e = interlaced_rows i interlaced in let f = progressive_rows p progressive in (λ h. (omega arith, omega arith), λ h k. omega arith)

  pub one_row_more : macroblock_rows i ≢ macroblock_rows p → macroblock_rows i ≡ macroblock_rows p + 1
  one_row_more h = let e = interlaced_rows i interlaced in let f = progressive_rows p progressive in omega arith

-- Slices are tested exactly where vertical size is not over 2800.
pub tested_iff : (h : SequenceHeader) → (slices_tested h ≡ true) ↔ (h.vertical ≤ 2800)
tested_iff h = (leb-true h.vertical 2800, le-leb h.vertical 2800)
