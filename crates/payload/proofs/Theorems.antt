-- What removal wrote is read back, and answers are told apart by their numbers and values.
use Rattle.std.specs.Prelude.{Result, Ok, Err}
use Prim.Native.Nat.{ℕ}
use mathlib.Core.Path.{◌≡◌, refl}
use mathlib.Core.List.{List, [], ◌∷◌}
use mathlib.Core.Bool.{cond}
use lib.Dec.{eqb, ltb}
use lib.ListN.{length, drop}
use Rattle.answers.specs.Answers.{Outcome, done, refused, VALUE, FULL, TOO_LONG, OneToOne}
use Rattle.answers.specs.Missing.{missing_in}
use Rattle.answers.specs.Limits.{longest_payload}
use Rattle.bits.specs.Bits.{bits_in, payload, pack}
use Rattle.bits.specs.Lists.{All}
use Rattle.bits.proofs.ListLaws.{all_append, all_take}
use Rattle.bits.proofs.TestLaws.{by_test}
use Rattle.answers.proofs.OutcomeLaws.{not_done, undone}
use Rattle.bits.proofs.BitLaws.{Binary, all_in}
use Rattle.bits.proofs.Main.{unpacked}
use Rattle.payload.specs.Escape.{kept, copied, unescaped, removal, output_after, removed_says}
use Rattle.payload.specs.Inside.{kept_width}
use Rattle.payload.specs.Golomb.{golomb_says}
use Rattle.payload.specs.declared.Numbered.{Numbered}
use Rattle.payload.specs.declared.RemovalError.{RemovalError}
use Rattle.payload.specs.declared.RemovalError.TheVariants.{Full, TooLong}
use Rattle.payload.specs.declared.GolombError.{GolombError}
use Rattle.payload.specs.declared.GolombError.TheVariants as why
use Rattle.payload.proofs.EscapeLaws.{kept_width_lem, zero_run}

-- ── what removal wrote ──

all_copied : (before raw : List ℕ) → All Binary (copied before raw)
unfolding copied
all_copied before [] = tt
all_copied before (byte ∷ raw) =
    all_append Binary (kept before byte) (copied (byte ∷ before) raw)
    (rw (kept_width_lem before byte) (all_take Binary (kept_width (zero_run before) byte) (bits_in 8 byte) (all_in 8 byte)))
    (all_copied (byte ∷ before) raw)

done_count : (raw : List ℕ) (room count : ℕ) → removal raw room ≡ done count → length (unescaped raw) ≡ count
unfolding removal
done_count raw room count e =
    by_test (ltb longest_payload (length raw))
    (λ t. let q : refused TOO_LONG [] ≡ done count = rw t at e in not_done q)
    (λ f.
    by_test (ltb room (length raw))
    (λ t. let q : refused FULL [] ≡ done count = rw (f, t) at e in not_done q)
    (λ g. let q : done (length (unescaped raw)) ≡ done count = rw (f, g) at e in cc))

pub removed_payload : (raw output : List ℕ) (count : ℕ) → removal raw (length output) ≡ done count →
    payload (output_after (done count) raw output) count ≡ unescaped raw
removed_payload raw output count e =
    rw (← done_count raw (length output) count e) (unpacked (unescaped raw) (drop (length (pack (unescaped raw))) output) (all_copied [] raw))

-- ── answers and their numbers ──

removed_of : Outcome ℕ → Result ℕ RemovalError
removed_of (done count) = Ok count
removed_of (refused number carried) = Err (cond (eqb number FULL) Full TooLong)

removed_undone : (a : Result ℕ RemovalError) → removed_of (removed_says a) ≡ a
unfolding removed_of
removed_undone (Ok count) = refl
removed_undone (Err Full) = refl
removed_undone (Err TooLong) = refl

pub removed_one_to_one : OneToOne removed_says
removed_one_to_one = undone removed_says removed_of removed_undone

-- the answer of an Exp-Golomb number, by what it says
pub golomb_one_to_one : {A : Type 0} → OneToOne (golomb_says {A = A})
golomb_one_to_one {A} = undone golomb_says back is
  where
    back : Outcome (Numbered A) → Result (Numbered A) GolombError
    back (done m) = Ok m
    back (refused n carried) = Err (cond (eqb n VALUE) why.Value (cond (eqb n TOO_LONG) why.TooLong (why.PayloadOut (missing_in carried))))

    is : (a : Result (Numbered A) GolombError) → back (golomb_says a) ≡ a
    is (Ok m) = refl
    is (Err why.Value) = refl
    is (Err why.TooLong) = refl
    is (Err (why.PayloadOut m)) = refl
