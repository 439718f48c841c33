-- One unit of a stream, as a computation: the next state, where it ends and its row's length; or why it is refused; or none.
use Rattle.std.specs.Prelude.{ℕ, ◌+◌, List, [], ◌∷◌, cond, length, drop, Option, Some, None, Result, Err}
use Rattle.answers.specs.Results.{map_ok}
use Rattle.startcode.specs.Prefix.{begins}
use Rattle.grammar.specs.Grammar.{StreamUnit, bytes}
use Rattle.grammar.specs.Rows.{placed, row_length}
use Rattle.grammar.specs.Reader.{Step, step, scope_in, is_nil, cut}
use Rattle.grammar.specs.declared.State.{State}
use Rattle.grammar.specs.declared.Reason.{Reason}
use Rattle.grammar.specs.declared.Reason.TheVariants as reason
use Rattle.units.specs.declared.NextUnit.{NextUnit}

abbrev pub next_of : Step → ℕ → ℕ → Result NextUnit Reason
next_of step end length = map_ok (λ q. record { state = q; end = end; length = length }) step

-- a unit that ends at an offset, read in state q
abbrev pub unit_from : State → StreamUnit → ℕ → Result NextUnit Reason
unit_from q u end = next_of (step q u) end (row_length (placed (scope_in q u) u))

-- the first of the chunks that a stream is cut into; an empty one is CUT at the stream's end and OVERLAP before another
abbrev pub unit_of : List (List ℕ) → State → ℕ → Option (Result NextUnit Reason)
unit_of [] q at = None
unit_of ([] ∷ chunks) q at = Some (Err (cond (is_nil chunks) reason.Cut reason.Overlap))
unit_of ((code ∷ body) ∷ chunks) q at =
    let u : StreamUnit = record { code = code; body = body } in
    Some (unit_from q u (at + length (bytes u)))

-- the unit at offset `at`, read in state q; none where no 00 00 01 stands there
unfoldable pub unit_at : List ℕ → State → ℕ → Option (Result NextUnit Reason)
unit_at stream q at = cond (begins (drop at stream)) (unit_of (cut (drop at stream)).chunks q at) None
