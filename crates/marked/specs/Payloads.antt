-- Exp-Golomb numbers, bins and the tables' entries by value. A refusal gives back the place, the state and the contexts that were asked with; in place of
-- a number or a bin, which it has none of, it has a mark that is no number and no bin. Beside the status is how many bits were missing.
use Rattle.std.specs.Prelude.{ℕ, ◌≡◌, cond, ◌≢◌, ◌↔◌, eqb, ℤ, pos, neg_ℤ, Option, Some, None}
use Rattle.answers.specs.Answers.{Outcome, done, refused, PAYLOAD_OUT}
use Rattle.answers.specs.Missing.{missing_in}
use Rattle.payload.specs.declared.Numbered.{Numbered}
use Rattle.rates.specs.declared.Rate.TheVariants.{Three, Four, Five}
use Rattle.entries.specs.Entries.{entry_of}
use Rattle.aec.specs.declared.State.{State}
use Rattle.contexts.specs.declared.Context.{Context}
use Rattle.marked.specs.declared.Number.{Number}
use Rattle.marked.specs.declared.SignedNumber.{SignedNumber}
use Rattle.marked.specs.declared.Begun.{Begun}
use Rattle.marked.specs.declared.PlainBin.{PlainBin}
use Rattle.marked.specs.declared.Bin.{Bin}
use Rattle.marked.specs.declared.PairBin.{PairBin}
use Rattle.marked.specs.declared.Told.{Told}

-- ── the marks ──

abbrev pub no_number : ℕ
no_number = 4294967295

abbrev pub no_signed_number : ℤ
no_signed_number = neg_ℤ (pos 2147483648)

abbrev pub no_bin : ℕ
no_bin = 2

abbrev pub no_lg : ℕ
no_lg = 4294967295

-- ── how many bits were missing ──

-- the status of an answer, and how many bits were missing
abbrev pub told : {A : Type 0} → Outcome A → Told
told (done a) = record { status = 0; missing = 0 }
told (refused number carried) = record { status = number; missing = missing_in carried }

-- 0 exactly where the status is not PAYLOAD OUT
abbrev pub ToldMissing : ℕ → ℕ → Type 0
ToldMissing status missing = (missing ≡ 0) ↔ (status ≢ PAYLOAD_OUT)

-- ── Exp-Golomb numbers, asked for at a place ──

abbrev pub number_answer : ℕ → Outcome (Numbered ℕ) → Number
number_answer place (done n) = record { status = 0; missing = 0; number = n.number; place = n.next }
number_answer place (refused number carried) = record { status = number; missing = missing_in carried; number = no_number; place = place }

abbrev pub signed_answer : ℕ → Outcome (Numbered ℤ) → SignedNumber
signed_answer place (done n) = record { status = 0; missing = 0; number = n.number; place = n.next }
signed_answer place (refused number carried) = record { status = number; missing = missing_in carried; number = no_signed_number; place = place }

-- ── bins, asked for with a state and contexts ──

abbrev pub begun_answer : State → Outcome State → Begun
begun_answer x (done y) = record { status = 0; missing = 0; state = y }
begun_answer x (refused number carried) = record { status = number; missing = missing_in carried; state = x }

abbrev pub plain_answer : State → Outcome (ℕ × State) → PlainBin
plain_answer x (done (bin, y)) = record { status = 0; missing = 0; bin = bin; state = y }
plain_answer x (refused number carried) = record { status = number; missing = missing_in carried; bin = no_bin; state = x }

abbrev pub bin_answer : State → Context → Outcome (ℕ × State × Context) → Bin
bin_answer x c (done (bin, y, d)) = record { status = 0; missing = 0; bin = bin; state = y; context = d }
bin_answer x c (refused number carried) = record { status = number; missing = missing_in carried; bin = no_bin; state = x; context = c }

abbrev pub pair_answer : State → Context → Context → Outcome (ℕ × State × Context × Context) → PairBin
pair_answer x a b (done (bin, y, c, d)) = record { status = 0; missing = 0; bin = bin; state = y; first = c; second = d }
pair_answer x a b (refused number carried) = record { status = number; missing = missing_in carried; bin = no_bin; state = x; first = a; second = b }

-- ── the tables of context steps, asked for with a w and an index ──

abbrev pub entry_number : Option ℕ → ℕ
entry_number (Some lg) = lg
entry_number None = no_lg

-- none for a w that is no rate's
unfoldable pub entry_answer : ℕ → ℕ → ℕ
entry_answer w index =
    cond (eqb w 3) (entry_number (entry_of Three index))
    (cond (eqb w 4) (entry_number (entry_of Four index))
    (cond (eqb w 5) (entry_number (entry_of Five index)) no_lg))
