-- Document 01, "What the desk takes": the limits.
use Rattle.std.specs.Prelude.{ℕ}

-- the most bytes of a stream
abbrev pub longest_stream : ℕ
longest_stream = 16_777_216

-- the most bytes of a payload, and their bits
abbrev pub longest_payload : ℕ
longest_payload = 65_536

abbrev pub most_bits : ℕ
most_bits = 524_288
