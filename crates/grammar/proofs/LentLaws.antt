-- Filing with so many words lent: FULL comes last.
use Rattle.std.proofs.Common.{Ok, Err}
use Prim.Native.Nat.{ℕ, ◌≤◌, ◌*◌}
use mathlib.Core.Path.{◌≡◌, refl, sym, ◌∙◌, ap}
use mathlib.Core.Logic.{◌↔◌}
use mathlib.Core.List.{List}
use native.Mathlib.Omega.{arith}
use borrow.Author.Tests.{ltb-false, le-ltb}
use lib.Dec.{ltb}
use lib.ListN.{length}
use Rattle.answers.specs.Answers.{done}
use Rattle.answers.specs.Limits.{longest_stream}
use Rattle.answers.proofs.ResultLaws.{not_ok, ok_same}
use Rattle.bits.proofs.TestLaws.{by_test}
use Rattle.grammar.specs.Grammar.{Reading, Reads}
use Rattle.grammar.specs.Rows.{Row, Placed, placed_units, rows_from, rows}
use Rattle.grammar.specs.Reader.{Walk, walk, said, within, walk_into, filing_into}
use Rattle.grammar.proofs.Filing.{walked_iff, said_done}
use Rattle.grammar.proofs.RowLaws.{rows_length}

module _ (s : List ℕ) (lent : ℕ) where
  pub into_good : (ms : List Placed) → walk s ≡ Ok ms → 3 * length ms ≤ lent → walk_into s lent ≡ Ok ms
  unfolding walk_into
  into_good ms e k = ap (within lent) e ∙ rw (le-ltb lent (3 * length ms) k)

within_good : (lent : ℕ) (w : Walk) (ms : List Placed) → within lent w ≡ Ok ms → (w ≡ Ok ms) × (3 * length ms ≤ lent)
within_good lent (Ok ns) ms e =
    by_test (ltb lent (3 * length ns))
    (λ t. not_ok (rw t at e))
    (λ f. let i : ns ≡ ms = ok_same (rw f at e) in let k = ltb-false lent (3 * length ns) f in (ap Ok i, rw i at k))
within_good lent (Err x) ms e = not_ok e

pub good_into : (s : List ℕ) (lent : ℕ) (ms : List Placed) → walk_into s lent ≡ Ok ms → (walk s ≡ Ok ms) × (3 * length ms ≤ lent)
unfolding walk_into
good_into s lent ms e = within_good lent (walk s) ms e

pub into_filed_iff : (s : List ℕ) (lent : ℕ) (rs : List Row) → (filing_into s lent ≡ done rs) ↔ ((length s ≤ longest_stream) × ((r : Reading) × Reads s r × (rs ≡ rows r)) × (3 * length rs ≤ lent))
unfolding filing_into
into_filed_iff s lent rs = (
  (λ e.
      let (ms, w, is) = said_done (rows_from 0) (walk_into s lent) rs e in
      let (g, room) = good_into s lent ms w in
      let (short, (r, k, same)) = (walked_iff s ms).0 g in
      let n : length rs ≡ length ms = ap length (sym is) ∙ rows_length 0 ms in
      (short, (r, k, sym is ∙ ap (rows_from 0) same), omega arith)),
  λ (short, (r, k, is), room).
      let n : length rs ≡ length (placed_units r) = ap length is ∙ rows_length 0 (placed_units r) in
      ap (said (rows_from 0)) (into_good s lent (placed_units r) ((walked_iff s (placed_units r)).1 (short, (r, k, refl))) (omega arith)) ∙ ap done (sym is),
)
