-- The order of the tests, and then the second pass.
use Rattle.std.proofs.Common.{Ok, Err}
use Rattle.std.proofs.lemmas.Result.{err_from_is_err_and}
use Prim.Native.Nat.{ℕ}
use mathlib.Core.Path.{◌≡◌, refl, sym, ap, ◌∙◌, subst}
use mathlib.Core.List.{List}
use native.Mathlib.Omega.{arith}
use lib.ListN.{length}
use Rattle.answers.specs.Answers.{Outcome, done, refused}
use Rattle.grammar.specs.Rows.{Placed, rows_from}
use Rattle.grammar.specs.Reader.{Walk, walk, said}
use Rattle.grammar.proofs.Filing.{said_done}
use Rattle.grammar.proofs.Refusals.{said_refused}
use Rattle.filing.specs.Filing.{filing_says, words_after}
use Rattle.filing.specs.Inside.{Kept, KeptBy}
use Rattle.filing.specs.declared.Totals.{Totals}
use Rattle.filing.proofs.Demand.{walk_good, into_bad, into_full, into_good, settled}
use Rattle.filing.proofs.file_keeping.Goals as goal
use Rattle.filing.proofs.file_keeping.Goals.{In_ok-units}

-- a stream that was counted: its units
module _ (k : In_ok-units) where
  found : (ms : List Placed) × (walk k.args.stream.now ≡ Ok ms) × (length ms ≡ k.in_ok-units.units)
  found = said_done length (walk k.args.stream.now) _ (sym k.check_keeping.ensures.0 ∙ ap filing_says k.in_ok-units.was)

-- the spans that were kept of them
kept : (k : In_ok-units) → Kept k.args.stream.now k.check_keeping.new.spans k.in_ok-units.units
kept k = subst (KeptBy k.args.stream.now k.check_keeping.new.spans) k.in_ok-units.was k.check_keeping.ensures.1

pub returns-then-rows-units : goal.returns-then-rows-units
returns-then-rows-units c = let a = c.args in let f = found (goal.at.returns-then-rows-units c).In_ok-units in let l = f.2 in settled a.stream.now a.rows.now _ _ _ (into_full a.stream.now _ f.0 f.1 (omega (arith, c.if-rows-units.true))) refl refl

pub write_rows-requires : goal.write_rows-requires
write_rows-requires c =
    let a = c.args in
    let f = found (goal.at.write_rows-requires c).In_ok-units in
    let l = f.2 in
    let d = walk_good a.stream.now f.0 f.1 in
    record { all = f.0; walked = d.1; short = d.0; count = f.2; room = omega (arith, c.if-rows-units.false); kept = kept (goal.at.write_rows-requires c).In_ok-units }

pub returns : goal.returns
returns c = let a = c.args in let f = found (goal.at.returns c).In_ok-units in let l = f.2 in settled a.stream.now a.rows.now _ _ (Ok f.0) (into_good a.stream.now _ f.0 f.1 (omega (arith, c.if-rows-units.false))) (let answer : ℕ → Outcome Totals = λ n. done (record { units = n }) in ap answer (sym f.2)) (c.write_rows.ensures ∙ ap (λ (x : Walk). words_after (said (rows_from 0) x) a.rows.now) (walk_good a.stream.now f.0 f.1).1)

pub returns-in_err-units : goal.returns-in_err-units
returns-in_err-units c =
    let a = c.args in
    let p = err_from_is_err_and c.from_residual.result c.from_residual.ensures.1 in
    let k = said_refused length (walk a.stream.now) _ _ (sym c.check_keeping.ensures.0 ∙ ap filing_says c.in_err-units.was) in
    rw (p.1, p.2) (settled a.stream.now a.rows.now _ _ (Err k.0) (into_bad a.stream.now _ k.0 k.1) (λ i. refused (k.2 i) (k.3 i)) refl)
