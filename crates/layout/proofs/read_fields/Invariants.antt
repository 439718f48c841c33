-- The values that are taken, and those that are still to be taken, are the body's.
use Prim.Native.Nat.{◌+◌}
use mathlib.Core.Path.{◌≡◌}
use lib.ListN.{length, take, drop}
use Rattle.bits.specs.Bits.{bits_of}
use Rattle.layout.specs.Layouts.{fields, bit_count}
use Rattle.layout.specs.Inside.{taken_from}
use Rattle.layout.proofs.ReadingLaws.{onto}
use Rattle.layout.proofs.read_fields.Given as goal

abbrev pub invariant-loop-i : goal.invariant-loop-i
invariant-loop-i l =
    let fs = fields l.fn.layout in
    record {
      counted : l.at + bit_count (drop l.i fs) ≡ bit_count fs;
      room : length l.values ≡ 16;
      taken : taken_from fs 0 (bits_of l.body) ≡ onto (take l.i l.values) (taken_from (drop l.i fs) l.at (bits_of l.body));
    }
