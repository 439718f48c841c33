-- Where renormalisation answers, it answers the state after the bin.
use mathlib.Core.Path.{sym, ◌∙◌}
use native.Mathlib.Omega.{arith}
use Rattle.bits.specs.Bits.{payload}
use Rattle.aec.specs.Inside.{of_split}
use Rattle.aec.proofs.RangeLaws.{state_ranges, payload_bound}
use Rattle.aec.proofs.StepLaws.{bin_miss}
use Rattle.aec.proofs.QuickLaws.{quick_state}
use Rattle.aec.proofs.Missed.quick.Goals as goal

pub overflow_add-result : goal.overflow_add-result
overflow_add-result c =
    let a = c.args.self.at in
    omega (arith, (state_ranges _ _ a.good).place, payload_bound a.limited.bits.bytes.now a.limited.bits.count a.limited.short)

pub returns : goal.returns
returns c =
    let a = c.args.self.at in
    let y = c.args.self.split in
    let told = sym c.renormalise.ensures ∙ c.in_ok-z.was in
    bin_miss (payload a.limited.bits.bytes.now a.limited.bits.count) a.state c.args.g.p (of_split y) _ c.args.self.misses
    (quick_state a.limited.bits.bytes.now a.limited.bits.count a.state (of_split y) c.in_ok-z.z (state_ranges _ _ a.good).vt y.t_fits y.range_some y.range_fits (rw c.head.ensures at told))
