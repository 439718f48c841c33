-- A context within its ranges predicts within them.
use Rattle.contexts.proofs.ContextLaws.{context_ranges}
use Rattle.aec.proofs.ContextContexts.prediction.Goals as goal

pub invariant_of-result : goal.invariant_of-result
invariant_of-result c = let r = context_ranges _ c.requires in record { p_fits = r.mps; lg_some = r.low; lg_fits = r.high }
