-- The entries of the source are those of the definition, which antt computes.
use Prim.Native.Nat.{◌%◌}
use native.Mathlib.Omega.{arith}
use Rattle.entries.proofs.WordLaws.{words_from, words_within}
use Rattle.entries.proofs.words_at.Goals as goal

pub returns : goal.returns
unfolding words_from
returns c = words_within 0 256 (c.args.m % 256) (c.args.m % 256) _ (omega arith) (omega arith)
