-- The tests in order, and then the unit up to the next prefix.
use Rattle.std.proofs.Common.{Some}
use Prim.Native.Nat.{ℕ, ◌+◌, ◌≤◌, ◌<◌}
use mathlib.Core.Path.{◌≡◌, sym, ap, ◌∙◌}
use mathlib.Core.Logic.{◌≢◌}
use mathlib.Core.Bool.{true, false}
use native.Mathlib.Omega.{arith}
use lib.ListN.{length, drop}
use Rattle.startcode.specs.Prefix.{begins}
use Rattle.grammar.proofs.WalkLaws.{prefix_fits, unit_between, next_fits}
use Rattle.units.specs.Reader.{unit_from}
use Rattle.units.proofs.UnitLaws.{unit_none, unit_cut, unit_overlap, unit_is}
use Rattle.units.proofs.unit_at.Goals as goal
use Rattle.units.proofs.unit_at.Goals.{After-prefix_at-2, After-shared_slice_known-2-1, Else-not-prefix_at, Else-prefix_at}

-- a prefix stands at the offset, with a code byte after it and no other prefix at that
here : (e : Else-not-prefix_at) → begins (drop e.args.at e.args.stream.now) ≡ true
here e = sym e.prefix_at.ensures ∙ e.if-not-prefix_at.false

inside : (p : After-prefix_at-2) → length p.args.stream.now ≢ p.args.at + 3 → p.args.at + 3 < length p.args.stream.now
inside p n =
    let a = p.args in
    let f = prefix_fits a.stream.now a.at (sym p.prefix_at.ensures ∙ p.if-not-prefix_at.false) in
    omega arith

alone : (e : Else-prefix_at) → begins (drop (e.args.at + 3) e.args.stream.now) ≡ false
alone e = sym e.prefix_at-2.ensures ∙ e.if-prefix_at.false

fits : (c : After-shared_slice_known-2-1) →
    let a = c.args in
    length a.stream.now ≢ a.at + 3 →
    (a.at + 4 ≤ c.next_prefix-end.result) × (c.next_prefix-end.result ≤ length a.stream.now)
fits c m =
    let a = c.args in
    let h = sym c.prefix_at.ensures ∙ c.if-not-prefix_at.false in
    let p = prefix_fits a.stream.now a.at h in
    let f = next_fits a.stream.now a.at h (omega arith) (sym c.prefix_at-2.ensures ∙ c.if-prefix_at.false) in
    let n = c.next_prefix-end.ensures in
    (omega (arith, f.0), omega (arith, f.1))

pub returns-then-not-prefix_at : goal.returns-then-not-prefix_at
returns-then-not-prefix_at c = let a = c.args in unit_none a.stream.now a.state a.at (sym c.prefix_at.ensures ∙ c.if-not-prefix_at.true)

pub overflow_add-code_at : goal.overflow_add-code_at
overflow_add-code_at c = let a = c.args in omega (arith, prefix_fits a.stream.now a.at (here c))

pub returns-then-stream-code_at : goal.returns-then-stream-code_at
returns-then-stream-code_at c = let a = c.args in unit_cut a.stream.now a.state a.at (here (goal.at.returns-then-stream-code_at c).Else-not-prefix_at) (sym c.if-stream-code_at.true)

pub returns-then-prefix_at : goal.returns-then-prefix_at
returns-then-prefix_at c = let a = c.args in unit_overlap a.stream.now a.state a.at (here (goal.at.returns-then-prefix_at c).Else-not-prefix_at) (sym c.prefix_at-2.ensures ∙ c.if-prefix_at.true)

pub bounds-stream-code_at : goal.bounds-stream-code_at
bounds-stream-code_at c = inside (goal.at.bounds-stream-code_at c).After-prefix_at-2 c.if-stream-code_at.false

pub overflow_add-from : goal.overflow_add-from
overflow_add-from c = let i = inside (goal.at.overflow_add-from c).After-prefix_at-2 c.if-stream-code_at.false in omega arith

pub slice_bounds-unit_of-count : goal.slice_bounds-unit_of-count
slice_bounds-unit_of-count c = let f = fits c c.if-stream-code_at.false in omega (arith, f.0)

pub slice_bounds-unit_of-start : goal.slice_bounds-unit_of-start
slice_bounds-unit_of-start c = let f = fits c c.if-stream-code_at.false in omega (arith, f.0, f.1)

pub slice_bounds-unit_of-end : goal.slice_bounds-unit_of-end
slice_bounds-unit_of-end c = let f = fits c c.if-stream-code_at.false in omega (arith, f.0, f.1)

pub returns : goal.returns
returns c = let a = c.args in ap Some (c.unit_of.ensures ∙ ap (λ (n : ℕ). unit_from a.state (unit_between a.stream.now a.at n) n) c.next_prefix-end.ensures) ∙ unit_is a.stream.now a.state a.at (here (goal.at.returns c).Else-not-prefix_at) (inside (goal.at.returns c).After-prefix_at-2 c.if-stream-code_at.false) (alone (goal.at.returns c).Else-prefix_at)
