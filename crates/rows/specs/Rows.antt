-- Document 01, "Rows": whether a row exists, and its body as a part of the stream.
use Rattle.std.specs.Prelude.{ℕ, zero, suc, ◌+◌, List, [], ◌∷◌, Option, Some, None, Bool, true, false, cond, leb, length, take, drop}
use Rattle.std.specs.Borrow.{Bor}
use Rattle.grammar.specs.Rows.{Row}
use Rattle.rows.specs.declared.Body.{Body}

-- Three 32-bit words a unit, in order: code, offset of the start code, length. Fewer than three words hold no row.
unfoldable pub held_row : List ℕ → ℕ → Option Row
held_row [] i = None
held_row (code ∷ []) i = None
held_row (code ∷ offset ∷ []) i = None
held_row (code ∷ offset ∷ length ∷ words) zero = Some (record { code = code; offset = offset; length = length })
held_row (code ∷ offset ∷ length ∷ words) (suc i) = held_row words i

-- offset + 4 + length is within the stream
unfoldable pub in_stream : List ℕ → Row → Bool
in_stream stream r = leb (r.offset + 4 + r.length) (length stream)

abbrev pub if_in_stream : List ℕ → Option Row → Option Row
if_in_stream stream None = None
if_in_stream stream (Some r) = cond (in_stream stream r) (Some r) None

-- Row i exists when the rows lent hold it and offset + 4 + length is within the stream.
unfoldable pub existing : List ℕ → List ℕ → ℕ → Option Row
existing stream words i = if_in_stream stream (held_row words i)

abbrev pub is_row : Option Row → Bool
is_row None = false
is_row (Some r) = true

-- One question says whether it exists;
abbrev pub row_exists : List ℕ → List ℕ → ℕ → Bool
row_exists stream words i = is_row (existing stream words i)

-- where the body of a row begins in the stream, and its length
abbrev pub body_of : Row → Body
body_of r = record { start = r.offset + 4; length = r.length }

-- another hands back that part of the caller's own stream, and for no row the empty part at the stream's start.
abbrev pub part_of : List ℕ → Option Row → List ℕ
part_of stream None = []
part_of stream (Some r) = take r.length (drop (r.offset + 4) stream)

abbrev pub row_body : List ℕ → List ℕ → ℕ → List ℕ
row_body stream words i = part_of stream (existing stream words i)

-- the bytes of the stream before that part
abbrev pub start_of : Option Row → ℕ
start_of None = 0
start_of (Some r) = r.offset + 4

-- Where that part lies, in the stream's own memory: an address is a block of memory and an offset in it.
abbrev pub body_address : Bor (List ℕ) → List ℕ → ℕ → ℕ × ℕ
body_address stream words i = (stream.ref_ptr.0, stream.ref_ptr.1 + start_of (existing stream.now words i))
