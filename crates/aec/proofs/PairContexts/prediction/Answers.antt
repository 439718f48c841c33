-- The prediction of two contexts, by the tests of the definition.
use native.Mathlib.Omega.{arith}
use Rattle.std.proofs.lemmas.Bool.{and_parts}
use Rattle.contexts.proofs.ContextLaws.{ContextRanges, context_ranges}
use Rattle.aec.proofs.PairLaws.{pair_same, pair_first, pair_second}
use Rattle.aec.proofs.PairContexts.prediction.Goals as goal
use Rattle.aec.proofs.PairContexts.prediction.Goals.{Start}

ranges : (e : Start) → (ContextRanges e.args.self.first) × (ContextRanges e.args.self.second)
ranges e = let r = and_parts _ _ e.requires in (context_ranges _ r.0, context_ranges _ r.1)

pub overflow_add-sum : goal.overflow_add-sum
overflow_add-sum c = let r = ranges (goal.at.overflow_add-sum c).Start in omega arith

pub invariant_of-result : goal.invariant_of-result
invariant_of-result c =
    let r = ranges (goal.at.invariant_of-result c).Start in
    record { p_fits = r.0.mps; lg_some = omega arith; lg_fits = omega arith }

pub returns-then-a-b : goal.returns-then-a-b
returns-then-a-b c = pair_same _ _ c.if-a-b.true

pub overflow_sub-lg : goal.overflow_sub-lg
overflow_sub-lg c = let r = ranges (goal.at.overflow_sub-lg c).Start in omega arith

pub invariant_of-result-then-a-b-2 : goal.invariant_of-result-then-a-b-2
invariant_of-result-then-a-b-2 c =
    let r = ranges (goal.at.invariant_of-result-then-a-b-2 c).Start in
    record { p_fits = r.0.mps; lg_some = omega arith; lg_fits = omega arith }

pub returns-then-a-b-2 : goal.returns-then-a-b-2
returns-then-a-b-2 c = pair_first _ _ c.if-a-b.false c.if-a-b-2.true

pub overflow_sub-lg-2 : goal.overflow_sub-lg-2
overflow_sub-lg-2 c = let r = ranges (goal.at.overflow_sub-lg-2 c).Start in omega arith

pub invariant_of-result-2 : goal.invariant_of-result-2
invariant_of-result-2 c =
    let r = ranges (goal.at.invariant_of-result-2 c).Start in
    record { p_fits = r.1.mps; lg_some = omega arith; lg_fits = omega arith }

pub returns : goal.returns
returns c = pair_second _ _ c.if-a-b.false c.if-a-b-2.false
