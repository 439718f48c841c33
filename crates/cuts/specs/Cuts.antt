-- Document 02, E12: "drop everything before any of its B0 start codes".
use Rattle.std.specs.Prelude.{ℕ, ◌-◌, ◌≡◌, ◌≢◌, ◌⊎◌, List, [], ◌∷◌, ◌++◌, map, length, drop, Result, Ok, Err}
use Rattle.answers.specs.Answers.{done}
use Rattle.grammar.specs.Lists.{concat_map}
use Rattle.grammar.specs.Grammar.{StreamUnit, bytes, Group, Reading, group_units}
use Rattle.grammar.specs.Rows.{Row, rows}
use Rattle.grammar.specs.declared.Reason.{Reason}
use Rattle.grammar.specs.declared.Reason.TheVariants as reason
use Rattle.filing.specs.declared.Totals.{Totals}
use Rattle.filing.specs.Filing.{words_after}
use Rattle.filing.specs.declared.Refusal.{Refusal}

-- ── places ──

-- n bytes stand before one of these units
pub record StartAt (us : List StreamUnit) (n : ℕ) : Type 0 where
  pub before : List StreamUnit
  pub unit : StreamUnit
  pub after : List StreamUnit
  pub divided : us ≡ before ++ unit ∷ after
  pub place : n ≡ length (concat_map bytes before)

-- "any of its B0 start codes"
abbrev pub HeaderAt : List StreamUnit → ℕ → Type 0
HeaderAt us n = (s : StartAt us n) × (s.unit.code ≡ 0xB0)

-- the same by the groups: n bytes stand before one of them, those of the units of the groups before it
pub record CutAt (r : Reading) (n : ℕ) : Type 0 where
  pub before : List Group
  pub after : List Group
  pub divided : r.groups ≡ before ++ after
  pub some_group : after ≢ []
  pub place : n ≡ length (concat_map bytes (concat_map group_units before))

-- ── what is left ──

-- the rest of the groups, with the same ending
abbrev pub rest : (r : Reading) {n : ℕ} → CutAt r n → Reading
rest r c = record { groups = c.after; ending = r.ending }

-- the rows from that unit on
abbrev pub rows_from_cut : (r : Reading) {n : ℕ} → CutAt r n → List Row
rows_from_cut r c = drop (length (concat_map group_units c.before)) (rows r)

-- a row with n less in its offset
abbrev pub less : ℕ → Row → Row
less n row = record { code = row.code; offset = row.offset - n; length = row.length }

-- "the same rows from there on, each offset less by what was dropped"
abbrev pub rows_left : (r : Reading) {n : ℕ} → CutAt r n → List Row
rows_left r {n} c = map (less n) (rows_from_cut r c)

-- ── what filing answers ──

-- what any other place is refused for: over the limit, no 00 00 01 there, or a unit there that begins no group
abbrev pub AtOnce : Reason → Type 0
AtOnce why = (why ≡ reason.TooLong) ⊎ (why ≡ reason.NoCode) ⊎ (why ≡ reason.OutOfPlace)

-- filed, with these rows in the first of the words lent
abbrev pub FiledAs : List Row → List ℕ → List ℕ → Result Totals Refusal → Type 0
FiledAs rs lent after a = (a ≡ Ok (record { units = length rs })) × (after ≡ words_after (done rs) lent)

-- refused, with all words as they were
abbrev pub RefusedAs : List ℕ → List ℕ → Result Totals Refusal → Type 0
RefusedAs lent after a = ((why : Refusal) × (a ≡ Err why)) × (after ≡ lent)
