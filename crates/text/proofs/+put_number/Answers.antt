-- A number's digits are those of its tenth, and the last one.
use Rattle.std.proofs.Common.{rules, [], ◌∷◌, ◌++◌, ◌/◌, ℕ, sym, ap, ◌∙◌}
use Rattle.text.specs.Text.{decimal}
use Rattle.text.proofs.PutLaws.{put_then, put_same}
use Rattle.text.proofs.SpellingLaws.{decimal_one, decimal_more}
use Rattle.text.proofs.+put_number.Goals as goal

pub returns-then-n-lt10 : goal.returns-then-n-lt10
returns-then-n-lt10 t c =
    put_same (ap (λ (d : ℕ). d ∷ []) c.last_digit.ensures ∙ sym (decimal_one c.args.n (search rules))) c.put_byte.ensures

pub returns : goal.returns
returns t c =
    let n = c.args.n in
    put_same
    (ap (λ (d : ℕ). decimal (n / 10) ++ (d ∷ [])) c.last_digit-2.ensures ∙ sym (decimal_more n (search rules) (search rules)))
    (put_then c.put_number-here.ensures c.put_byte-2.ensures)
