-- What is computed of Exp-Golomb numbers: the zeros before the first 1, and then one read. proofs/Main.antt says when it gives what.
use Rattle.std.specs.Prelude.{ℕ, zero, suc, ◌+◌, ◌-◌, ◌^◌, List, [], ◌∷◌, cond, eqb, ltb, ℤ, length, drop, Result, Ok, Err}
use Rattle.answers.specs.Answers.{Outcome, done, refuse_if, map_done, TOO_LONG}
use Rattle.answers.specs.Limits.{longest_payload}
use Rattle.answers.specs.Missing.{payload_out}
use Rattle.bits.specs.Bits.{payload, read_at, read_or}
use Rattle.payload.specs.Golomb.{with_sign, golomb_refused}
use Rattle.payload.specs.declared.Numbered.{Numbered}
use Rattle.payload.specs.declared.GolombError.{GolombError}
use Rattle.payload.specs.declared.GolombError.TheVariants.{Value, PayloadOut}

-- After z zeros, with the bits from `place` on: how many zeros stand before the first 1, and the place after that 1.
-- Value at the 32nd zero, PayloadOut where the bits end first: of bits that are read one by one, one is missing.
unfoldable pub zeros_on : ℕ → ℕ → List ℕ → Result (Numbered ℕ) GolombError
zeros_on z place [] = Err (PayloadOut 1)
zeros_on z place (zero ∷ bits) = cond (eqb z 31) (Err Value) (zeros_on (z + 1) (place + 1) bits)
zeros_on z place (suc b ∷ bits) = Ok (record { number = z; next = place + 1 })

-- with the z bits of value b, one read from the place after the 1
abbrev pub number_of : ℕ → ℕ → Result ℕ ℕ → Outcome (Numbered ℕ)
number_of z place = read_or (λ b. done (record { number = 2 ^ z - 1 + b; next = place + z })) payload_out

abbrev pub golomb_after : List ℕ → Result (Numbered ℕ) GolombError → Outcome (Numbered ℕ)
golomb_after bits (Ok zeros) = number_of zeros.number zeros.next (read_at bits zeros.next zeros.number)
golomb_after bits (Err why) = golomb_refused why

-- the unsigned number at a place of a payload
unfoldable pub golomb : List ℕ → ℕ → ℕ → Outcome (Numbered ℕ)
golomb bytes count place =
    refuse_if (ltb longest_payload (length bytes)) TOO_LONG
    (golomb_after (payload bytes count) (zeros_on 0 place (drop place (payload bytes count))))

-- the signed number there
unfoldable pub signed_golomb : List ℕ → ℕ → ℕ → Outcome (Numbered ℤ)
signed_golomb bytes count place = map_done with_sign (golomb bytes count place)
