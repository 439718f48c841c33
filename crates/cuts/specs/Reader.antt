-- What filing answers of what is left, by its computations.
use Rattle.std.specs.Prelude.{ℕ, ◌≡◌, List, length}
use Rattle.answers.specs.Answers.{done, refused}
use Rattle.grammar.specs.Rows.{Row}
use Rattle.grammar.specs.Reasons.{reason_number, carries}
use Rattle.grammar.specs.Reader.{walk, said, filing_into}
use Rattle.grammar.specs.declared.Reason.{Reason}
use Rattle.filing.specs.Reader.{filed}

-- filed with these rows where so many words are lent
pub record FiledWith (stream : List ℕ) (lent : ℕ) (rs : List Row) : Type 0 where
  pub checked : said length (walk stream) ≡ done (length rs)
  pub rows : filing_into stream lent ≡ done rs
  pub totals : filed stream lent ≡ done (record { units = length rs })

-- refused for this reason at offset 0, with rows asked for or without, however many words are lent
pub record RefusedFor (stream : List ℕ) (why : Reason) : Type 0 where
  pub checked : said length (walk stream) ≡ refused (reason_number why) (carries why 0)
  pub rows : (lent : ℕ) → filing_into stream lent ≡ refused (reason_number why) (carries why 0)
  pub totals : (lent : ℕ) → filed stream lent ≡ refused (reason_number why) (carries why 0)
