-- How words hold the tables' entries, and what is read of them.
use Rattle.std.specs.Prelude.{ℕ, ◌+◌, ◌*◌, ◌/◌, ◌%◌, ◌^◌, cond, eqb}
use Rattle.rates.specs.Rates.{next_lg}
use Rattle.entries.specs.declared.Words.{Words}

-- four entries of the table for w, in sixteen bits each, the first in the lowest
abbrev pub word_of : ℕ → ℕ → ℕ
word_of w lg = next_lg w lg + 65536 * next_lg w (lg + 1) + 65536 ^ 2 * next_lg w (lg + 2) + 65536 ^ 3 * next_lg w (lg + 3)

abbrev pub words_of : ℕ → Words
words_of m = record { 0 = word_of 3 (4 * m); 1 = word_of 4 (4 * m); 2 = word_of 5 (4 * m) }

abbrev pub pick_of : Words → ℕ → ℕ
pick_of words w = cond (eqb w 3) words.0 (cond (eqb w 4) words.1 words.2)

-- the entry at an lg; past the table the words come round, and what is read is no entry
abbrev pub read_of : ℕ → ℕ → ℕ
read_of w lg = pick_of (words_of (lg / 4 % 256)) w / 2 ^ (16 * (lg % 4)) % 65536
