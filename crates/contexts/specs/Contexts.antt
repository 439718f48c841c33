-- Document 01, "Bins": a context's ranges, a fresh context, and "Update", in the document's order. What goes by the rate is of the
-- crate rates: w, and what lg loses and gains.
use Rattle.std.specs.Prelude.{ℕ, ◌+◌, ◌-◌, min, Bool, cond, ◌&&◌, leb, eqb}
use Rattle.rates.specs.Rates.{rate_of, next_lg, gain_of}
use Rattle.contexts.specs.declared.Context.{Context}

-- ── "Ranges" and "A fresh context" ──

-- a context within its ranges
unfoldable pub good_context : Context → Bool
good_context c = leb c.mps 1 && leb 4 c.lg && leb c.lg 1023 && leb c.cycno 3

abbrev pub fresh_context : Context
fresh_context = record { mps = 0; lg = 1023; cycno = 0 }

-- ── "Update" ──

-- cycno after a bin that was mps (a hit), or was not: "up by one, at most 3"
unfoldable pub next_cycno : Bool → ℕ → ℕ
next_cycno hit cycno = cond hit (cond (eqb cycno 0) 1 cycno) (min 3 (cycno + 1))

-- "if over 1023 becomes 2047 - lg and mps flips"
unfoldable pub fold_of : Context → Context
fold_of c = cond (leb c.lg 1023) c (record { mps = 1 - c.mps; lg = 2047 - c.lg; cycno = c.cycno })

-- w is that of the cycno before the step
unfoldable pub update_of : Context → ℕ → Context
update_of c bin =
    let hit = eqb bin c.mps in
    let w = rate_of c.cycno in
    let cycno = next_cycno hit c.cycno in
    cond hit (record { mps = c.mps; lg = next_lg w c.lg; cycno = cycno })
    (fold_of (record { mps = c.mps; lg = c.lg + gain_of w; cycno = cycno }))

-- what is answered for any context: one out of its ranges stays as it is
abbrev pub updated_of : Context → ℕ → Context
updated_of c bin = cond (good_context c) (update_of c bin) c
