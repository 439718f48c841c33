-- The refusals in order, and then the two parts of the work.
use Prim.Native.Nat.{ℕ}
use mathlib.Core.Path.{◌≡◌, refl, sym, ap, ◌∙◌}
use mathlib.Core.List.{List}
use native.Mathlib.Omega.{arith}
use lib.ListN.{length}
use Rattle.answers.specs.Answers.{Outcome, done}
use Rattle.payload.specs.Escape.{output_after, removal}
use Rattle.payload.proofs.EscapeLaws.{removal_long, removal_full, removal_done, output_made}
use Rattle.payload.proofs.remove_escapes.Goals as goal

-- the output that goes with an answer
settled : (raw out after : List ℕ) (r : Outcome ℕ) → removal raw (length out) ≡ r → after ≡ output_after r raw out →
    after ≡ output_after (removal raw (length out)) raw out
settled raw out after r e o = o ∙ ap (λ (x : Outcome ℕ). output_after x raw out) (sym e)

pub returns-then-raw-gt-LIMIT : goal.returns-then-raw-gt-LIMIT
returns-then-raw-gt-LIMIT c = let a = c.args in let e = removal_long a.raw.now a.out.now c.if-raw-gt-LIMIT.true in record { answer = sym e; output = settled a.raw.now a.out.now _ _ e refl }

pub returns-then-out-raw : goal.returns-then-out-raw
returns-then-out-raw c =
    let a = c.args in
    let e = removal_full a.raw.now a.out.now c.if-raw-gt-LIMIT.false c.if-out-raw.true in
    record { answer = sym e; output = settled a.raw.now a.out.now _ _ e refl }

pub fill-requires : goal.fill-requires
fill-requires c =
    let g = c.copy_bits-packer.ensures in
    (omega (arith, g.within, g.same), omega (arith, g.within))

pub returns : goal.returns
returns c =
    let a = c.args in
    let g = c.copy_bits-packer.ensures in
    let f = c.fill.ensures in
    let e = removal_done a.raw.now a.out.now c.if-raw-gt-LIMIT.false c.if-out-raw.false ∙ ap done (sym (f.count ∙ g.count)) in
    record {
      answer = sym e;
      output = settled a.raw.now a.out.now _ _ e (output_made a.raw.now a.out.now _ _ c.copy_bits-packer.result g c.if-out-raw.false f.written);
    }
