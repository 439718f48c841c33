-- The next cycno, and lg by the rate of the cycno before, once the context is within its ranges.
use Prim.Native.Nat.{ℕ, ◌+◌, ◌-◌, ◌≤◌}
use mathlib.Core.Path.{◌≡◌, sym, ap, ◌∙◌}
use mathlib.Core.Bool.{true, cond}
use native.Mathlib.Omega.{arith}
use borrow.Author.Tests.{eq-eqb, ne_eqb}
use Rattle.rates.specs.Rates.{w_of, gain_of}
use Rattle.rates.proofs.RateLaws.{gain_within}
use Rattle.contexts.specs.Contexts.{good_context, update_of}
use Rattle.contexts.specs.declared.Context.{Context}
use Rattle.contexts.proofs.ContextLaws.{ContextRanges, context_ranges, update_hit, update_more, update_fold}
use Rattle.contexts.proofs.Context.updated.Goals as goal
use Rattle.contexts.proofs.Context.updated.Goals.{After-by-rate}

pub returns-then-not-is_good : goal.returns-then-not-is_good
returns-then-not-is_good c =
    let a = c.args in
    ap (λ t. cond t (update_of a.self a.bin) a.self) (sym c.if-not-is_good.true ∙ c.is_good.ensures)

-- the context and the bin, the rate and the next cycno
module _ (r : After-by-rate) where
  abbrev context : Context
  context = r.args.self

  abbrev bin : ℕ
  bin = r.args.bin

  abbrev next : ℕ
  next = r.next_cycno-next.result

  good : good_context context ≡ true
  good = sym r.is_good.ensures ∙ r.if-not-is_good.false

pub returns-then-hit : goal.returns-then-hit
returns-then-hit c =
    let r = (goal.at.returns-then-hit c).After-by-rate in
    ap (λ n. record { mps = (context r).mps; lg = n; cycno = next r }) c.next_lg.ensures
    ∙ update_hit (context r) (bin r) (w_of c.by-rate.result) (next r) (good r) c.by-rate.ensures c.next_cycno-next.ensures (eq-eqb _ _ c.if-hit.true)

-- lg and its gain
bound : (r : After-by-rate) (gain : ℕ) → gain ≡ gain_of (w_of r.by-rate.result) → (1 ≤ gain) × (gain ≤ 197) × (ContextRanges (context r))
bound r gain e =
    let g = gain_within (w_of r.by-rate.result) in
    (omega arith, omega arith, context_ranges _ (good r))

pub overflow_add-more : goal.overflow_add-more
overflow_add-more c = let b = bound (goal.at.overflow_add-more c).After-by-rate c.gain.result c.gain.ensures in omega arith

pub returns-then-more-le1023 : goal.returns-then-more-le1023
returns-then-more-le1023 c =
    let r = (goal.at.returns-then-more-le1023 c).After-by-rate in
    ap (λ n. record { mps = (context r).mps; lg = (context r).lg + n; cycno = next r }) c.gain.ensures
    ∙ update_more (context r) (bin r) (w_of c.by-rate.result) (next r) (good r) c.by-rate.ensures c.next_cycno-next.ensures (ne_eqb _ _ c.if-hit.false) (omega (arith, c.gain.ensures))

pub overflow_sub-result : goal.overflow_sub-result
overflow_sub-result c = let b = bound (goal.at.overflow_sub-result c).After-by-rate c.gain.result c.gain.ensures in omega arith

pub overflow_sub-result-2 : goal.overflow_sub-result-2
overflow_sub-result-2 c = let b = bound (goal.at.overflow_sub-result-2 c).After-by-rate c.gain.result c.gain.ensures in omega arith

pub returns : goal.returns
returns c =
    let r = (goal.at.returns c).After-by-rate in
    ap (λ n. record { mps = 1 - (context r).mps; lg = 2047 - ((context r).lg + n); cycno = next r }) c.gain.ensures
    ∙ update_fold (context r) (bin r) (w_of c.by-rate.result) (next r) (good r) c.by-rate.ensures c.next_cycno-next.ensures (ne_eqb _ _ c.if-hit.false) (omega (arith, c.gain.ensures))
