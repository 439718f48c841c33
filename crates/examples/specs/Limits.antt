-- The rules of document 01, and of document 02 where it changes them, each at its limit and beside it: what the definitions answer,
-- beside what the papers say. Bodies are written here by width and value, with none of the library's tables, and the numbers said
-- are worked out from the papers alone: a rule changed in code and definition alike does not agree with them.
use Rattle.std.specs.Prelude.{ℕ, zero, suc, Option, Some, None, ◌*◌, ◌+◌, ◌/◌, ◌%◌, ◌^◌, List, [], ◌∷◌, ◌++◌, map, cond, ℤ, pos, neg_ℤ, length, take, drop, replicate}
use Rattle.answers.specs.Answers.{Outcome, done, refused, map_done, NO_CODE, CUT, OVERLAP, UNKNOWN, OUT_OF_PLACE, SHORT, MARKER, VALUE, STUFFING, TWICE, UNENDED, FULL, TOO_LONG, PAYLOAD_OUT, BAD_STATE, NO_ROW, VALUE_WIDTH, VALUE_HEIGHT, VALUE_CHROMA, VALUE_PRECISION, VALUE_ASPECT, VALUE_RATE, VALUE_TRANSFER, VALUE_MATRIX, VALUE_STEREO, VALUE_COPYRIGHT_OWNER, VALUE_COPYRIGHT_NUMBER, VALUE_SLICE_ORDER, VALUE_SLICE_ROW}
use Rattle.answers.specs.Limits.{longest_stream, longest_payload, most_bits}
use Rattle.answers.specs.Missing.{payload_out, missing_in}
use Rattle.startcode.specs.Prefix.{next_prefix, steps}
use Rattle.startcode.specs.Kinds.{kind_of}
use Rattle.startcode.specs.declared.Kind.TheVariants as kind
use Rattle.bodies.specs.declared.ExtensionBody.{ExtensionBody}
use Rattle.bodies.specs.declared.ExtensionBody.TheVariants as extensionBody
use Rattle.bodies.specs.Reader.{header_of, extension_of}
use Rattle.bodies.specs.declared.SequenceHeader.{SequenceHeader}
use Rattle.bodies.specs.declared.Colour.{Colour}
use Rattle.bodies.specs.declared.Scope.TheVariants.{Head, Picture}
use Rattle.ratios.specs.Ratios.{numerator, denominator, frame_rate, display_ratio}
use Rattle.ratios.specs.declared.Fraction.{Fraction}
use Rattle.macroblocks.specs.Macroblocks.{macroblock_columns, macroblock_rows}
use Rattle.grammar.specs.Rows.{words}
use Rattle.grammar.specs.Reader.{filing}
use Rattle.rows.specs.Rows.{row_exists, row_body}
use Rattle.bodies.specs.declared.DisplayExtension.{DisplayExtension}
use Rattle.groups.specs.Reader.{group_at}
use Rattle.payload.specs.Golomb.{stands_for}
use Rattle.payload.specs.Reader.{golomb}
use Rattle.rates.specs.declared.Rate.{Rate}
use Rattle.rates.specs.declared.Rate.TheVariants.{Three, Four, Five}
use Rattle.entries.specs.Entries.{entry_of}
use Rattle.contexts.specs.Contexts.{update_of}
use Rattle.aec.specs.Bins.{start_of, pair_of, bypass_of, stuffing_of, decode_of, decode_pair_of}
use Rattle.aec.specs.declared.State.{State}
use Rattle.contexts.specs.declared.Context.{Context}
use Rattle.examples.specs.Examples.{Example, at, bit, ◌gives◌, ◌stands_as◌, ◌is_a◌, header, unescaped, signed_number, state_numbers, context_numbers}

-- ── answers ──

abbrev pub is : ℕ → Outcome (List ℕ)
is n = done (n ∷ [])

abbrev pub no : ℕ → Outcome (List ℕ)
no number = refused number []

-- the papers' number of an answer: 0 for one that is done
abbrev pub status : {A : Type 0} → Outcome A → ℕ
status (done a) = 0
status (refused number carried) = number

-- a refusal alone
abbrev pub refusal : {A : Type 0} → Outcome A → Outcome (List ℕ)
refusal o = map_done (λ a. []) o

abbrev pub missing_of : {A : Type 0} → Outcome A → ℕ
missing_of (done a) = 0
missing_of (refused number carried) = missing_in carried

-- the numbers of the answers for some values
abbrev pub statuses : {A : Type 0} → (ℕ → Outcome A) → List ℕ → Outcome (List ℕ)
statuses answer values = done (map (λ v. status (answer v)) values)

-- how many bits are missing in them, where they carry that
abbrev pub missings : {A : Type 0} → (ℕ → Outcome A) → List ℕ → Outcome (List ℕ)
missings answer values = done (map (λ v. missing_of (answer v)) values)

-- ── bodies ──

-- fields in order, each with its width and its value
abbrev pub Fields : Type 0
Fields = List (ℕ × ℕ)

-- the number that fields write, after a number
unfoldable pub written_on : ℕ → Fields → ℕ
written_on n [] = n
written_on n (f ∷ fs) = written_on (n * 2 ^ f.0 + f.1) fs

-- so many bytes of a number
unfoldable pub bytes_in : ℕ → ℕ → List ℕ
bytes_in zero n = []
bytes_in (suc k) n = (n / 256 ^ k % 256) ∷ bytes_in k n

-- so many bytes, which the fields fill
abbrev pub body : ℕ → Fields → List ℕ
body size fs = bytes_in size (written_on 0 fs)

-- another value for the field of this number, counted from 0
unfoldable pub changed : ℕ → ℕ → Fields → Fields
changed k v [] = []
changed zero v (f ∷ fs) = (f.0, v) ∷ fs
changed (suc k) v (f ∷ fs) = f ∷ changed k v fs

-- ── sequence headers ──

-- profile, level, progressive, sizes, chroma, precision, aspect, rate, bit rate low, marker, high, low delay, marker, buffer, reserved, stuffing
abbrev pub header_fields : ℕ → ℕ → Fields
header_fields horizontal vertical =
    (8, 72) ∷ (8, 65) ∷ (1, 1) ∷ (14, horizontal) ∷ (14, vertical) ∷ (2, 2) ∷ (3, 1) ∷ (4, 3) ∷ (4, 4)
    ∷ (18, 100000) ∷ (1, 1) ∷ (12, 7) ∷ (1, 0) ∷ (1, 1) ∷ (18, 200000) ∷ (3, 5) ∷ (8, 0x80) ∷ []

-- each field at its least, and at its greatest
abbrev pub least_header : Fields
least_header =
    (8, 0) ∷ (8, 0) ∷ (1, 0) ∷ (14, 1) ∷ (14, 1) ∷ (2, 1) ∷ (3, 1) ∷ (4, 1) ∷ (4, 1)
    ∷ (18, 0) ∷ (1, 1) ∷ (12, 0) ∷ (1, 0) ∷ (1, 1) ∷ (18, 0) ∷ (3, 0) ∷ (8, 0x80) ∷ []

abbrev pub greatest_header : Fields
greatest_header =
    (8, 255) ∷ (8, 255) ∷ (1, 1) ∷ (14, 16383) ∷ (14, 16383) ∷ (2, 2) ∷ (3, 1) ∷ (4, 4) ∷ (4, 8)
    ∷ (18, 262143) ∷ (1, 1) ∷ (12, 4095) ∷ (1, 1) ∷ (1, 1) ∷ (18, 262143) ∷ (3, 7) ∷ (8, 0x80) ∷ []

abbrev pub header_numbers : SequenceHeader → List ℕ
header_numbers h =
    h.profile ∷ h.level ∷ h.progressive ∷ h.horizontal ∷ h.vertical ∷ h.chroma ∷ h.precision ∷ h.aspect ∷ h.rate
    ∷ h.bitrate ∷ h.delay ∷ h.buffer ∷ []

abbrev pub header_is : Fields → Outcome (List ℕ)
header_is fs = map_done header_numbers (header_of (body 15 fs))

-- with one field changed
abbrev pub header_with : ℕ → ℕ → Outcome SequenceHeader
header_with field v = header_of (body 15 (changed field v (header_fields 720 576)))

-- with other bytes after its fields
abbrev pub header_then : List ℕ → Outcome (List ℕ)
header_then end = map_done (λ h. []) (header_of (take 14 (body 15 (header_fields 720 576)) ++ end))

-- with this progressive and these sizes
abbrev pub header_of_sizes : ℕ → ℕ → ℕ → List ℕ
header_of_sizes progressive horizontal vertical = body 15 (changed 2 progressive (header_fields horizontal vertical))

-- columns and rows by progressive and sizes
abbrev pub macroblocks : ℕ → ℕ → ℕ → Outcome (List ℕ)
macroblocks progressive horizontal vertical = map_done (λ h. macroblock_columns h ∷ macroblock_rows h ∷ []) (header_of (header_of_sizes progressive horizontal vertical))

abbrev pub fraction : Option Fraction → Outcome (List ℕ)
fraction (Some f) = done (numerator f ∷ denominator f ∷ [])
fraction None = done []

-- ── extensions ──

-- number, format, range, colour given, width, marker, height, stereo, stuffing
abbrev pub plain_fields : Fields
plain_fields = (4, 2) ∷ (3, 5) ∷ (1, 0) ∷ (1, 0) ∷ (14, 720) ∷ (1, 1) ∷ (14, 576) ∷ (2, 1) ∷ (8, 0x80) ∷ []

abbrev pub least_plain : Fields
least_plain = (4, 2) ∷ (3, 0) ∷ (1, 0) ∷ (1, 0) ∷ (14, 0) ∷ (1, 1) ∷ (14, 0) ∷ (2, 0) ∷ (8, 0x80) ∷ []

abbrev pub greatest_plain : Fields
greatest_plain = (4, 2) ∷ (3, 7) ∷ (1, 1) ∷ (1, 0) ∷ (14, 16383) ∷ (1, 1) ∷ (14, 16383) ∷ (2, 2) ∷ (8, 0x80) ∷ []

-- number, format, range, colour given, primaries, transfer, matrix, width, marker, height, stereo, stuffing
abbrev pub coloured_fields : Fields
coloured_fields = (4, 2) ∷ (3, 6) ∷ (1, 0) ∷ (1, 1) ∷ (8, 9) ∷ (8, 4) ∷ (8, 5) ∷ (14, 1280) ∷ (1, 1) ∷ (14, 704) ∷ (2, 1) ∷ (8, 0x80) ∷ []

abbrev pub least_coloured : Fields
least_coloured = (4, 2) ∷ (3, 0) ∷ (1, 0) ∷ (1, 1) ∷ (8, 0) ∷ (8, 1) ∷ (8, 1) ∷ (14, 0) ∷ (1, 1) ∷ (14, 0) ∷ (2, 0) ∷ (8, 0x80) ∷ []

abbrev pub greatest_coloured : Fields
greatest_coloured = (4, 2) ∷ (3, 7) ∷ (1, 1) ∷ (1, 1) ∷ (8, 255) ∷ (8, 10) ∷ (8, 7) ∷ (14, 16383) ∷ (1, 1) ∷ (14, 16383) ∷ (2, 2) ∷ (8, 0x80) ∷ []

-- number, flag, owner, original, reserved, marker, part one, marker, part two, marker, part three, stuffing
abbrev pub copyright_fields : ℕ → ℕ → ℕ → ℕ → ℕ → Fields
copyright_fields flag owner one two three =
    (4, 4) ∷ (1, flag) ∷ (8, owner) ∷ (1, 0) ∷ (7, 42) ∷ (1, 1) ∷ (20, one) ∷ (1, 1) ∷ (22, two) ∷ (1, 1) ∷ (22, three) ∷ (8, 0x80) ∷ []

abbrev pub least_copyright : Fields
least_copyright = (4, 4) ∷ (1, 0) ∷ (8, 0) ∷ (1, 0) ∷ (7, 0) ∷ (1, 1) ∷ (20, 0) ∷ (1, 1) ∷ (22, 0) ∷ (1, 1) ∷ (22, 0) ∷ (8, 0x80) ∷ []

abbrev pub greatest_copyright : Fields
greatest_copyright = (4, 4) ∷ (1, 1) ∷ (8, 255) ∷ (1, 1) ∷ (7, 127) ∷ (1, 1) ∷ (20, 1048575) ∷ (1, 1) ∷ (22, 4194303) ∷ (1, 1) ∷ (22, 4194303) ∷ (8, 0x80) ∷ []

abbrev pub plain_body : List ℕ
plain_body = body 6 plain_fields

abbrev pub coloured_body : List ℕ
coloured_body = body 9 coloured_fields

abbrev pub copyright_body : List ℕ
copyright_body = body 12 (copyright_fields 1 0xA5 0x12345 0x23456 0x34567)

abbrev pub colour_numbers : Option Colour → List ℕ
colour_numbers (Some colour) = colour.primaries ∷ colour.transfer ∷ colour.matrix ∷ []
colour_numbers None = []

-- the number, then the record's numbers; an opaque extension has its number alone
abbrev pub extension_numbers : ExtensionBody → List ℕ
extension_numbers (extensionBody.Display d) = 2 ∷ d.format ∷ d.range ∷ colour_numbers d.colour ++ d.width ∷ d.height ∷ d.stereo ∷ []
extension_numbers (extensionBody.Copyright c) = 4 ∷ c.flag ∷ c.owner ∷ c.original ∷ c.number ∷ []
extension_numbers (extensionBody.Opaque number) = number ∷ []

-- in a group's head, and after a picture header
abbrev pub in_head : List ℕ → Outcome (List ℕ)
in_head bytes = map_done extension_numbers (extension_of Head bytes)

abbrev pub after_picture : List ℕ → Outcome (List ℕ)
after_picture bytes = map_done extension_numbers (extension_of Picture bytes)

-- with one field changed
abbrev pub plain_with : ℕ → ℕ → Outcome ExtensionBody
plain_with field v = extension_of Head (body 6 (changed field v plain_fields))

abbrev pub coloured_with : ℕ → ℕ → Outcome ExtensionBody
coloured_with field v = extension_of Head (body 9 (changed field v coloured_fields))

abbrev pub copyright_with : ℕ → ℕ → Outcome ExtensionBody
copyright_with field v = extension_of Picture (body 12 (changed field v (copyright_fields 1 0xA5 0x12345 0x23456 0x34567)))

-- by flag, owner and the number's parts
abbrev pub copyright_is : ℕ → ℕ → ℕ → ℕ → ℕ → Outcome (List ℕ)
copyright_is flag owner one two three = in_head (body 12 (copyright_fields flag owner one two three))

-- ── streams ──

abbrev pub unit : ℕ → List ℕ → List ℕ
unit code bytes = 0 ∷ 0 ∷ 1 ∷ code ∷ bytes

abbrev pub slice : ℕ → List ℕ
slice code = unit code (0x80 ∷ [])

abbrev pub picture : List ℕ
picture = unit 0xB3 (0x80 ∷ [])

abbrev pub inter_picture : List ℕ
inter_picture = unit 0xB6 (0x80 ∷ [])

abbrev pub user_data : List ℕ → List ℕ
user_data bytes = unit 0xB2 bytes

abbrev pub extension : List ℕ → List ℕ
extension bytes = unit 0xB5 bytes

abbrev pub sequence_end : List ℕ
sequence_end = unit 0xB1 []

abbrev pub edit_code : List ℕ
edit_code = unit 0xB7 []

-- header H of document 01, 19 bytes with its start code
abbrev pub group : List ℕ → List ℕ
group rest = unit 0xB0 (header 0x80) ++ rest

-- a header with this progressive and vertical size, a picture with these slices, and an ending or another group
abbrev pub sliced_group : ℕ → ℕ → List ℕ → List ℕ → List ℕ
sliced_group progressive vertical slices rest = unit 0xB0 (header_of_sizes progressive 720 vertical) ++ picture ++ slices ++ rest

abbrev pub sliced : ℕ → ℕ → List ℕ → List ℕ
sliced progressive vertical slices = sliced_group progressive vertical slices sequence_end

-- the number of units
abbrev pub counted : List ℕ → Outcome (List ℕ)
counted stream = map_done (λ rs. length rs ∷ []) (filing stream)

-- the numbers of the answers where a unit with the body 80 ends the stream: slice 01, then B0 to B8
abbrev pub next_unit : List ℕ → Outcome (List ℕ)
next_unit before = statuses (λ code. filing (before ++ slice code)) (1 ∷ 0xB0 ∷ 0xB1 ∷ 0xB2 ∷ 0xB3 ∷ 0xB4 ∷ 0xB5 ∷ 0xB6 ∷ 0xB7 ∷ 0xB8 ∷ [])

-- the words of the rows
abbrev pub rows_of : List ℕ → Outcome (List ℕ)
rows_of stream = map_done words (filing stream)

-- whether rows hold row i of a stream of so many bytes, as 1 or 0
abbrev pub exists : ℕ → List ℕ → ℕ → Outcome (List ℕ)
exists size rows i = is (cond (row_exists (replicate size 0) rows i) 1 0)

abbrev pub part_of : List ℕ → List ℕ → ℕ → Outcome (List ℕ)
part_of stream rows i = done (row_body stream rows i)

-- the display extension's numbers, where it is given
abbrev pub display_given : Option DisplayExtension → List ℕ
display_given (Some d) = extension_numbers (extensionBody.Display d)
display_given None = []

-- header and display extension of group g
abbrev pub group_is : List ℕ → ℕ → Outcome (List ℕ)
group_is stream g = map_done (λ x. header_numbers x.header ++ display_given x.display) (group_at stream g)

-- two groups: H with a display extension, and another header with none, since its number 2 stands after the picture header
abbrev pub two_groups : List ℕ → List ℕ
two_groups ending =
    group (extension (0x10 ∷ []) ++ extension coloured_body ++ picture ++ slice 0)
    ++ unit 0xB0 (body 15 (header_fields 720 576)) ++ picture ++ extension plain_body ++ slice 0 ++ ending

-- ── payloads ──

-- the number and the place after it
abbrev pub number_at : List ℕ → ℕ → ℕ → Outcome (List ℕ)
number_at bytes bits place = map_done (λ n. n.number ∷ n.next ∷ []) (golomb bytes bits place)

-- the signed number that a number stands for
abbrev pub signed_of : ℕ → Outcome ℤ
signed_of n = done (stands_for n)

-- 31 zeros and a 1, then four bytes
abbrev pub after_zeros : List ℕ → List ℕ
after_zeros bytes = 0 ∷ 0 ∷ 0 ∷ 1 ∷ bytes

-- ── bins ──

abbrev pub state : ℕ → ℕ → ℕ → ℕ → ℕ → State
state rs rt vs vt place = record { rs = rs; rt = rt; vs = vs; vt = vt; place = place }

abbrev pub context : ℕ → ℕ → ℕ → Context
context mps lg cycno = record { mps = mps; lg = lg; cycno = cycno }

-- 24 bits
abbrev pub payload : List ℕ
payload = 0xA5 ∷ 0x3C ∷ 0x96 ∷ []

abbrev pub plain_numbers : ℕ × State → List ℕ
plain_numbers r = r.0 ∷ state_numbers r.1

abbrev pub bypass : State → Outcome (List ℕ)
bypass x = map_done plain_numbers (bypass_of payload 24 x)

abbrev pub stuffing : State → Outcome (List ℕ)
stuffing x = map_done plain_numbers (stuffing_of payload 24 x)

-- a context after a bin
abbrev pub updated : Context → ℕ → Outcome (List ℕ)
updated c bin = done (context_numbers (update_of c bin))

-- the entry of a rate's table at an index, and no number where there is none
abbrev pub entry_numbers : Option ℕ → List ℕ
entry_numbers (Some lg) = lg ∷ []
entry_numbers None = []

abbrev pub entry : Rate → ℕ → Outcome (List ℕ)
entry r k = done (entry_numbers (entry_of r k))

-- p and lg of two contexts
abbrev pub paired : Context → Context → Outcome (List ℕ)
paired a b = let g = pair_of a b in done (g.p ∷ g.lg ∷ [])

-- the bin and the two contexts after it
abbrev pub pair_bin : State → Context → Context → Outcome (List ℕ)
pair_bin x a b = map_done (λ r. r.0 ∷ context_numbers r.2 ++ context_numbers r.3) (decode_pair_of payload 24 x a b)

-- one bypass bin by a state, and one bin of a state within its ranges by a context
abbrev pub by_state : State → Outcome (ℕ × State)
by_state x = bypass_of payload 24 x

abbrev pub by_context : Context → Outcome (ℕ × State × Context)
by_context c = decode_of payload 24 (state 0 255 1 0 9) c

-- one bin by one context, lg 403 and so q 100, with what it predicts: the bin and the state after it
abbrev pub one_bin : ℕ → State → Outcome (List ℕ)
one_bin mps x = map_done (λ r. r.0 ∷ state_numbers r.1) (decode_of payload 24 x (context mps 403 0))

-- ── "What the desk takes", "Refusal numbers" ──

abbrev pub number_limits : List Example
number_limits =
    done (longest_stream ∷ longest_payload ∷ most_bits ∷ []) gives done (16777216 ∷ 65536 ∷ 524288 ∷ [])
    ∷ done (NO_CODE ∷ CUT ∷ OVERLAP ∷ UNKNOWN ∷ OUT_OF_PLACE ∷ SHORT ∷ MARKER ∷ VALUE ∷ []) gives done (1 ∷ 2 ∷ 3 ∷ 4 ∷ 5 ∷ 6 ∷ 7 ∷ 8 ∷ [])
    ∷ done (STUFFING ∷ TWICE ∷ UNENDED ∷ FULL ∷ TOO_LONG ∷ PAYLOAD_OUT ∷ BAD_STATE ∷ NO_ROW ∷ []) gives done (9 ∷ 10 ∷ 11 ∷ 12 ∷ 13 ∷ 14 ∷ 15 ∷ 16 ∷ [])
    ∷ []

-- ── "Units" ──

-- where the next 00 00 01 is, and how many steps lead there
abbrev pub sought : List ℕ → Outcome (List ℕ)
sought bytes = done (next_prefix bytes 0 ∷ steps bytes ∷ [])

abbrev pub unit_limits : List Example
unit_limits =
    -- E3: a third byte 00 is a step of one place, any other one of three; fewer than three bytes take none
    sought [] gives done (0 ∷ 0 ∷ [])
    ∷ sought (0 ∷ 0 ∷ []) gives done (2 ∷ 0 ∷ [])
    ∷ sought (0 ∷ 0 ∷ 1 ∷ []) gives done (0 ∷ 1 ∷ [])
    ∷ sought (0 ∷ 1 ∷ 1 ∷ []) gives done (3 ∷ 1 ∷ [])
    ∷ sought (0 ∷ 0 ∷ 2 ∷ []) gives done (3 ∷ 1 ∷ [])
    ∷ sought (0 ∷ 0 ∷ 0 ∷ 1 ∷ []) gives done (1 ∷ 2 ∷ [])
    ∷ sought (2 ∷ 2 ∷ 0 ∷ 0 ∷ 1 ∷ []) gives done (2 ∷ 3 ∷ [])
    ∷ sought (2 ∷ 2 ∷ 2 ∷ 0 ∷ 0 ∷ 1 ∷ []) gives done (3 ∷ 2 ∷ [])
    ∷ sought (0 ∷ 1 ∷ 0 ∷ 1 ∷ 0 ∷ 1 ∷ 0 ∷ 1 ∷ []) gives done (8 ∷ 4 ∷ [])
    ∷ sought (replicate 12 0) gives done (12 ∷ 10 ∷ [])
    ∷ sought (replicate 14 1) gives done (14 ∷ 4 ∷ [])
    ∷ sought (replicate 15 2) gives done (15 ∷ 5 ∷ [])
    -- code bytes at the borders of their ranges
    ∷ kind_of 0x00 is_a done kind.Slice
    ∷ kind_of 0xAF is_a done kind.Slice
    ∷ kind_of 0xB0 is_a done kind.SequenceHeader
    ∷ kind_of 0xB1 is_a done kind.SequenceEnd
    ∷ kind_of 0xB2 is_a done kind.UserData
    ∷ kind_of 0xB3 is_a done kind.IPicture
    ∷ kind_of 0xB4 is_a refused UNKNOWN []
    ∷ kind_of 0xB5 is_a done kind.Extension
    ∷ kind_of 0xB6 is_a done kind.PBPicture
    ∷ kind_of 0xB7 is_a done kind.EditCode
    ∷ kind_of 0xB8 is_a refused UNKNOWN []
    ∷ kind_of 0xB9 is_a refused UNKNOWN []
    ∷ kind_of 0xFF is_a refused UNKNOWN []
    -- UNKNOWN where nothing may stand, before OUT OF PLACE
    ∷ counted (unit 0xB4 []) gives refused UNKNOWN (at 0)
    ∷ counted (unit 0xB8 []) gives refused UNKNOWN (at 0)
    ∷ counted (unit 0xFF []) gives refused UNKNOWN (at 0)
    ∷ counted (unit 0xAF []) gives refused OUT_OF_PLACE (at 0)
    ∷ counted (unit 0xB7 []) gives refused OUT_OF_PLACE (at 0)
    -- NO CODE: the first three bytes are not 00 00 01, or there are fewer
    ∷ counted (0 ∷ 0 ∷ []) gives refused NO_CODE (at 0)
    ∷ counted (0 ∷ 0 ∷ 2 ∷ []) gives refused NO_CODE (at 0)
    ∷ counted (0 ∷ 0 ∷ 0 ∷ 1 ∷ []) gives refused NO_CODE (at 0)
    -- CUT: no code byte; OVERLAP: code byte 00 followed by 00 01, at the stream's end too
    ∷ counted (0 ∷ 0 ∷ 1 ∷ []) gives refused CUT (at 0)
    ∷ counted (0 ∷ 0 ∷ 1 ∷ 0 ∷ []) gives refused OUT_OF_PLACE (at 0)
    ∷ counted (0 ∷ 0 ∷ 1 ∷ 0 ∷ 0 ∷ []) gives refused OUT_OF_PLACE (at 0)
    ∷ counted (0 ∷ 0 ∷ 1 ∷ 0 ∷ 0 ∷ 1 ∷ []) gives refused OVERLAP (at 0)
    ∷ counted (0 ∷ 0 ∷ 1 ∷ 0 ∷ 0 ∷ 1 ∷ 0xB0 ∷ []) gives refused OVERLAP (at 0)
    ∷ counted (0 ∷ 0 ∷ 1 ∷ 0 ∷ 0 ∷ 0 ∷ 1 ∷ []) gives refused OUT_OF_PLACE (at 0)
    ∷ []

-- ── "Layouts": sequence header ──

abbrev pub header_limits : List Example
header_limits =
    -- progressive (2) 1 and low delay (12) 0, and the other way about; each field at its least, and at its greatest
    header_is (header_fields 720 576) gives done (72 ∷ 65 ∷ 1 ∷ 720 ∷ 576 ∷ 2 ∷ 1 ∷ 3 ∷ 4 ∷ 1935008 ∷ 0 ∷ 200000 ∷ [])
    ∷ header_is (changed 2 0 (changed 12 1 (header_fields 720 576))) gives done (72 ∷ 65 ∷ 0 ∷ 720 ∷ 576 ∷ 2 ∷ 1 ∷ 3 ∷ 4 ∷ 1935008 ∷ 1 ∷ 200000 ∷ [])
    ∷ header_is least_header gives done (0 ∷ 0 ∷ 0 ∷ 1 ∷ 1 ∷ 1 ∷ 1 ∷ 1 ∷ 1 ∷ 0 ∷ 0 ∷ 0 ∷ [])
    ∷ header_is greatest_header gives done (255 ∷ 255 ∷ 1 ∷ 16383 ∷ 16383 ∷ 2 ∷ 1 ∷ 4 ∷ 8 ∷ 1073741823 ∷ 1 ∷ 262143 ∷ [])
    -- bit rate = high × 262,144 + low: fields 11 and 9
    ∷ header_is (changed 9 262143 least_header) gives done (0 ∷ 0 ∷ 0 ∷ 1 ∷ 1 ∷ 1 ∷ 1 ∷ 1 ∷ 1 ∷ 262143 ∷ 0 ∷ 0 ∷ [])
    ∷ header_is (changed 11 1 least_header) gives done (0 ∷ 0 ∷ 0 ∷ 1 ∷ 1 ∷ 1 ∷ 1 ∷ 1 ∷ 1 ∷ 262144 ∷ 0 ∷ 0 ∷ [])
    -- reserved bits (15) may be anything
    ∷ header_is (changed 15 7 least_header) gives done (0 ∷ 0 ∷ 0 ∷ 1 ∷ 1 ∷ 1 ∷ 1 ∷ 1 ∷ 1 ∷ 0 ∷ 0 ∷ 0 ∷ [])
    -- a size of 0: horizontal (3), vertical (4)
    ∷ statuses (header_with 3) (0 ∷ 1 ∷ 16383 ∷ []) gives done (20 ∷ 0 ∷ 0 ∷ [])
    ∷ statuses (header_with 4) (0 ∷ 1 ∷ 16383 ∷ []) gives done (21 ∷ 0 ∷ 0 ∷ [])
    -- the codes of chroma (5), precision (6), aspect (7) and rate (8)
    ∷ statuses (header_with 5) (0 ∷ 1 ∷ 2 ∷ 3 ∷ []) gives done (22 ∷ 0 ∷ 0 ∷ 22 ∷ [])
    ∷ statuses (header_with 6) (0 ∷ 1 ∷ 2 ∷ 3 ∷ 4 ∷ 5 ∷ 6 ∷ 7 ∷ []) gives done (23 ∷ 0 ∷ 23 ∷ 23 ∷ 23 ∷ 23 ∷ 23 ∷ 23 ∷ [])
    ∷ statuses (header_with 7) (0 ∷ 1 ∷ 2 ∷ 3 ∷ 4 ∷ 5 ∷ 6 ∷ 15 ∷ []) gives done (24 ∷ 0 ∷ 0 ∷ 0 ∷ 0 ∷ 24 ∷ 24 ∷ 24 ∷ [])
    ∷ statuses (header_with 8) (0 ∷ 1 ∷ 2 ∷ 3 ∷ 4 ∷ 5 ∷ 6 ∷ 7 ∷ 8 ∷ 9 ∷ 15 ∷ []) gives done (25 ∷ 0 ∷ 0 ∷ 0 ∷ 0 ∷ 0 ∷ 0 ∷ 0 ∷ 0 ∷ 25 ∷ 25 ∷ [])
    -- the markers (10, 13)
    ∷ statuses (header_with 10) (0 ∷ 1 ∷ []) gives done (7 ∷ 0 ∷ [])
    ∷ statuses (header_with 13) (0 ∷ 1 ∷ []) gives done (7 ∷ 0 ∷ [])
    -- fields in bit order, then the stuffing (16): the first that is wrong
    ∷ header_is (changed 8 0 (changed 10 0 least_header)) gives refused VALUE_RATE (bit 54)
    ∷ header_is (changed 10 0 (changed 16 0 least_header)) gives refused MARKER (bit 76)
    -- the stuffing, and the bytes asked for
    ∷ header_then (0x80 ∷ []) gives done []
    ∷ header_then (0x80 ∷ 0x00 ∷ 0x00 ∷ []) gives done []
    ∷ header_then (0x80 ∷ 0x00 ∷ 0x01 ∷ []) gives no STUFFING
    ∷ header_then (0x80 ∷ 0x80 ∷ []) gives no STUFFING
    ∷ header_then (0x81 ∷ []) gives no STUFFING
    ∷ header_then (0xC0 ∷ []) gives no STUFFING
    ∷ header_then (0x40 ∷ []) gives no STUFFING
    ∷ header_then (0x00 ∷ []) gives no STUFFING
    ∷ header_then (0x00 ∷ 0x80 ∷ []) gives no STUFFING
    ∷ header_then [] gives no SHORT
    -- macroblock columns and rows
    ∷ macroblocks 1 1 16383 gives done (1 ∷ 1024 ∷ [])
    ∷ macroblocks 1 16 17 gives done (1 ∷ 2 ∷ [])
    ∷ macroblocks 1 1920 1921 gives done (120 ∷ 121 ∷ [])
    ∷ macroblocks 1 2801 2800 gives done (176 ∷ 175 ∷ [])
    -- document 02, E4: rows of height 496, and beside the limits of both formulas
    ∷ macroblocks 1 720 496 gives done (45 ∷ 31 ∷ [])
    ∷ macroblocks 0 720 496 gives done (45 ∷ 32 ∷ [])
    ∷ macroblocks 1 720 497 gives done (45 ∷ 32 ∷ [])
    ∷ macroblocks 0 720 497 gives done (45 ∷ 32 ∷ [])
    ∷ macroblocks 1 720 1 gives done (45 ∷ 1 ∷ [])
    ∷ macroblocks 0 720 1 gives done (45 ∷ 2 ∷ [])
    ∷ macroblocks 1 720 32 gives done (45 ∷ 2 ∷ [])
    ∷ macroblocks 0 720 32 gives done (45 ∷ 2 ∷ [])
    ∷ macroblocks 1 720 33 gives done (45 ∷ 3 ∷ [])
    ∷ macroblocks 0 720 33 gives done (45 ∷ 4 ∷ [])
    ∷ macroblocks 1 720 1080 gives done (45 ∷ 68 ∷ [])
    ∷ macroblocks 0 720 1080 gives done (45 ∷ 68 ∷ [])
    ∷ macroblocks 0 720 2800 gives done (45 ∷ 176 ∷ [])
    ∷ macroblocks 0 720 16383 gives done (45 ∷ 1024 ∷ [])
    -- frame rates and display ratios
    ∷ fraction (frame_rate 0) gives done []
    ∷ fraction (frame_rate 1) gives done (24000 ∷ 1001 ∷ [])
    ∷ fraction (frame_rate 2) gives done (24 ∷ 1 ∷ [])
    ∷ fraction (frame_rate 3) gives done (25 ∷ 1 ∷ [])
    ∷ fraction (frame_rate 4) gives done (30000 ∷ 1001 ∷ [])
    ∷ fraction (frame_rate 5) gives done (30 ∷ 1 ∷ [])
    ∷ fraction (frame_rate 6) gives done (50 ∷ 1 ∷ [])
    ∷ fraction (frame_rate 7) gives done (60000 ∷ 1001 ∷ [])
    ∷ fraction (frame_rate 8) gives done (60 ∷ 1 ∷ [])
    ∷ fraction (frame_rate 9) gives done []
    ∷ fraction (display_ratio 0) gives done []
    ∷ fraction (display_ratio 1) gives done []
    ∷ fraction (display_ratio 2) gives done (4 ∷ 3 ∷ [])
    ∷ fraction (display_ratio 3) gives done (16 ∷ 9 ∷ [])
    ∷ fraction (display_ratio 4) gives done (221 ∷ 100 ∷ [])
    ∷ fraction (display_ratio 5) gives done []
    ∷ []

-- ── "Layouts": extensions ──

abbrev pub extension_limits : List Example
extension_limits =
    -- a display extension without colour, and with it; each field at its least, and at its greatest
    in_head plain_body gives done (2 ∷ 5 ∷ 0 ∷ 720 ∷ 576 ∷ 1 ∷ [])
    ∷ in_head (body 6 least_plain) gives done (2 ∷ 0 ∷ 0 ∷ 0 ∷ 0 ∷ 0 ∷ [])
    ∷ in_head (body 6 greatest_plain) gives done (2 ∷ 7 ∷ 1 ∷ 16383 ∷ 16383 ∷ 2 ∷ [])
    ∷ in_head coloured_body gives done (2 ∷ 6 ∷ 0 ∷ 9 ∷ 4 ∷ 5 ∷ 1280 ∷ 704 ∷ 1 ∷ [])
    ∷ in_head (body 9 least_coloured) gives done (2 ∷ 0 ∷ 0 ∷ 0 ∷ 1 ∷ 1 ∷ 0 ∷ 0 ∷ 0 ∷ [])
    ∷ in_head (body 9 greatest_coloured) gives done (2 ∷ 7 ∷ 1 ∷ 255 ∷ 10 ∷ 7 ∷ 16383 ∷ 16383 ∷ 2 ∷ [])
    -- primaries (4) are not judged; transfer (5) 0, 3 or above 10; matrix (6) 0, 3 or above 7
    ∷ statuses (coloured_with 4) (0 ∷ 3 ∷ 255 ∷ []) gives done (0 ∷ 0 ∷ 0 ∷ [])
    ∷ statuses (coloured_with 5) (0 ∷ 1 ∷ 2 ∷ 3 ∷ 4 ∷ 5 ∷ 9 ∷ 10 ∷ 11 ∷ 255 ∷ []) gives done (26 ∷ 0 ∷ 0 ∷ 26 ∷ 0 ∷ 0 ∷ 0 ∷ 0 ∷ 26 ∷ 26 ∷ [])
    ∷ statuses (coloured_with 6) (0 ∷ 1 ∷ 2 ∷ 3 ∷ 4 ∷ 5 ∷ 6 ∷ 7 ∷ 8 ∷ 255 ∷ []) gives done (27 ∷ 0 ∷ 0 ∷ 27 ∷ 0 ∷ 0 ∷ 0 ∷ 0 ∷ 27 ∷ 27 ∷ [])
    -- stereo (7, with colour 10) 3; format (1), width (4, with colour 7) and height (6, with colour 9) are not judged
    ∷ statuses (plain_with 7) (0 ∷ 1 ∷ 2 ∷ 3 ∷ []) gives done (0 ∷ 0 ∷ 0 ∷ 28 ∷ [])
    ∷ statuses (coloured_with 10) (0 ∷ 1 ∷ 2 ∷ 3 ∷ []) gives done (0 ∷ 0 ∷ 0 ∷ 28 ∷ [])
    ∷ statuses (plain_with 1) (0 ∷ 7 ∷ []) gives done (0 ∷ 0 ∷ [])
    ∷ statuses (plain_with 4) (0 ∷ 16383 ∷ []) gives done (0 ∷ 0 ∷ [])
    ∷ statuses (plain_with 6) (0 ∷ 16383 ∷ []) gives done (0 ∷ 0 ∷ [])
    ∷ statuses (coloured_with 1) (0 ∷ 7 ∷ []) gives done (0 ∷ 0 ∷ [])
    ∷ statuses (coloured_with 7) (0 ∷ 16383 ∷ []) gives done (0 ∷ 0 ∷ [])
    ∷ statuses (coloured_with 9) (0 ∷ 16383 ∷ []) gives done (0 ∷ 0 ∷ [])
    -- the marker (5, with colour 8)
    ∷ statuses (plain_with 5) (0 ∷ 1 ∷ []) gives done (7 ∷ 0 ∷ [])
    ∷ statuses (coloured_with 8) (0 ∷ 1 ∷ []) gives done (7 ∷ 0 ∷ [])
    -- 6 or 9 bytes
    ∷ in_head (take 5 plain_body) gives no SHORT
    ∷ in_head (take 8 coloured_body) gives no SHORT
    ∷ in_head (take 1 coloured_body) gives no SHORT
    -- the stuffing (8, with colour 11)
    ∷ statuses (plain_with 8) (0x80 ∷ 0x40 ∷ 0x81 ∷ 0x00 ∷ []) gives done (0 ∷ 9 ∷ 9 ∷ 9 ∷ [])
    ∷ statuses (coloured_with 11) (0x80 ∷ 0x40 ∷ 0x81 ∷ 0x00 ∷ []) gives done (0 ∷ 9 ∷ 9 ∷ 9 ∷ [])
    ∷ in_head (plain_body ++ 0x00 ∷ 0x00 ∷ []) gives done (2 ∷ 5 ∷ 0 ∷ 720 ∷ 576 ∷ 1 ∷ [])
    ∷ in_head (plain_body ++ 0x00 ∷ 0x02 ∷ []) gives no STUFFING
    -- each field of a copyright extension at its least, and at its greatest; flag 0 with original (3) 1
    ∷ in_head (body 12 least_copyright) gives done (4 ∷ 0 ∷ 0 ∷ 0 ∷ 0 ∷ [])
    ∷ in_head (body 12 greatest_copyright) gives done (4 ∷ 1 ∷ 255 ∷ 1 ∷ 18446744073709551615 ∷ [])
    ∷ in_head (body 12 (changed 3 1 least_copyright)) gives done (4 ∷ 0 ∷ 0 ∷ 1 ∷ 0 ∷ [])
    -- copyright anywhere; its number by parts; reserved bits (4) may be anything
    ∷ in_head copyright_body gives done (4 ∷ 1 ∷ 165 ∷ 0 ∷ 1311761958353192295 ∷ [])
    ∷ after_picture copyright_body gives done (4 ∷ 1 ∷ 165 ∷ 0 ∷ 1311761958353192295 ∷ [])
    ∷ copyright_is 1 1 0 0 4194303 gives done (4 ∷ 1 ∷ 1 ∷ 0 ∷ 4194303 ∷ [])
    ∷ copyright_is 1 1 0 1 0 gives done (4 ∷ 1 ∷ 1 ∷ 0 ∷ 4194304 ∷ [])
    ∷ copyright_is 1 1 0 4194303 0 gives done (4 ∷ 1 ∷ 1 ∷ 0 ∷ 17592181850112 ∷ [])
    ∷ copyright_is 1 1 1 0 0 gives done (4 ∷ 1 ∷ 1 ∷ 0 ∷ 17592186044416 ∷ [])
    ∷ copyright_is 1 255 1048575 4194303 4194303 gives done (4 ∷ 1 ∷ 255 ∷ 0 ∷ 18446744073709551615 ∷ [])
    ∷ statuses (copyright_with 4) (0 ∷ 127 ∷ []) gives done (0 ∷ 0 ∷ [])
    -- flag 0 with owner not 0; owner 0 with number not 0, in any part
    ∷ copyright_is 0 0 0 0 0 gives done (4 ∷ 0 ∷ 0 ∷ 0 ∷ 0 ∷ [])
    ∷ copyright_is 0 1 0 0 0 gives refused VALUE_COPYRIGHT_OWNER (bit 5)
    ∷ copyright_is 0 128 0 0 0 gives refused VALUE_COPYRIGHT_OWNER (bit 5)
    ∷ copyright_is 1 0 0 0 0 gives done (4 ∷ 1 ∷ 0 ∷ 0 ∷ 0 ∷ [])
    ∷ copyright_is 1 1 0 0 0 gives done (4 ∷ 1 ∷ 1 ∷ 0 ∷ 0 ∷ [])
    ∷ copyright_is 1 0 0 0 1 gives refused VALUE_COPYRIGHT_NUMBER (bit 22)
    ∷ copyright_is 1 0 0 1 0 gives refused VALUE_COPYRIGHT_NUMBER (bit 22)
    ∷ copyright_is 1 0 1 0 0 gives refused VALUE_COPYRIGHT_NUMBER (bit 22)
    ∷ copyright_is 0 0 0 0 1 gives refused VALUE_COPYRIGHT_NUMBER (bit 22)
    -- the markers (5, 7, 9), which come before that rule, and the stuffing (11), which comes after
    ∷ statuses (copyright_with 5) (0 ∷ 1 ∷ []) gives done (7 ∷ 0 ∷ [])
    ∷ statuses (copyright_with 7) (0 ∷ 1 ∷ []) gives done (7 ∷ 0 ∷ [])
    ∷ statuses (copyright_with 9) (0 ∷ 1 ∷ []) gives done (7 ∷ 0 ∷ [])
    ∷ in_head (body 12 (changed 9 0 (copyright_fields 0 1 0 0 0))) gives refused MARKER (bit 65)
    ∷ in_head (body 12 (changed 11 0 (copyright_fields 0 1 0 0 0))) gives refused VALUE_COPYRIGHT_OWNER (bit 5)
    ∷ statuses (copyright_with 11) (0x80 ∷ 0x40 ∷ 0x81 ∷ 0x00 ∷ []) gives done (0 ∷ 9 ∷ 9 ∷ 9 ∷ [])
    ∷ after_picture (copyright_body ++ 0x00 ∷ 0x01 ∷ []) gives no STUFFING
    ∷ after_picture (take 11 copyright_body) gives no SHORT
    -- any other number is opaque; an empty body has none
    ∷ in_head (0x10 ∷ []) gives is 1
    ∷ in_head (0x30 ∷ []) gives is 3
    ∷ in_head (0x5F ∷ []) gives is 5
    ∷ in_head (0x0F ∷ []) gives is 0
    ∷ after_picture (0xF0 ∷ []) gives is 15
    ∷ in_head [] gives no SHORT
    ∷ after_picture [] gives no SHORT
    ∷ []

-- ── "Grammar of a stream", "Rows" ──

abbrev pub grammar_limits : List Example
grammar_limits =
    -- each slice greater than the one before; anew with each picture
    counted (group (picture ++ slice 1 ++ slice 2 ++ sequence_end)) gives is 5
    ∷ counted (group (picture ++ slice 2 ++ slice 2 ++ sequence_end)) gives refused VALUE_SLICE_ORDER (at 29 ++ bit 0)
    ∷ counted (group (picture ++ slice 2 ++ slice 1 ++ sequence_end)) gives refused VALUE_SLICE_ORDER (at 29 ++ bit 0)
    ∷ counted (group (picture ++ slice 2 ++ inter_picture ++ slice 1 ++ sequence_end)) gives is 6
    -- less than the macroblock rows: 1, 2, and 175 where vertical size is 2800; where it is over, neither is tested
    ∷ counted (sliced 1 16 (slice 0)) gives is 4
    ∷ counted (sliced 1 16 (slice 1)) gives refused VALUE_SLICE_ROW (at 24 ++ bit 0)
    ∷ counted (sliced 1 17 (slice 1)) gives is 4
    ∷ counted (sliced 1 17 (slice 2)) gives refused VALUE_SLICE_ROW (at 24 ++ bit 0)
    ∷ counted (sliced 1 2800 (slice 0xAE)) gives is 4
    ∷ counted (sliced 1 2800 (slice 0xAF)) gives refused VALUE_SLICE_ROW (at 24 ++ bit 0)
    ∷ counted (sliced 1 2800 (slice 2 ++ slice 2)) gives refused VALUE_SLICE_ORDER (at 29 ++ bit 0)
    ∷ counted (sliced 1 2801 (slice 0xAF)) gives is 4
    ∷ counted (sliced 1 2801 (slice 2 ++ slice 2 ++ slice 1)) gives is 6
    -- document 02, E4: 32 rows of height 496 where progressive is 0 and 31 where it is 1; 2, and 176 where vertical size is 2800
    ∷ counted (sliced 0 496 (slice 0x1F)) gives is 4
    ∷ counted (sliced 0 496 (slice 0x20)) gives refused VALUE_SLICE_ROW (at 24 ++ bit 0)
    ∷ counted (sliced 1 496 (slice 0x1E)) gives is 4
    ∷ counted (sliced 1 496 (slice 0x1F)) gives refused VALUE_SLICE_ROW (at 24 ++ bit 0)
    ∷ counted (sliced 0 16 (slice 1)) gives is 4
    ∷ counted (sliced 0 16 (slice 2)) gives refused VALUE_SLICE_ROW (at 24 ++ bit 0)
    ∷ counted (sliced 0 2800 (slice 0xAF)) gives is 4
    ∷ counted (sliced 0 2800 (slice 0xAF ++ slice 0xAF)) gives refused VALUE_SLICE_ORDER (at 29 ++ bit 0)
    ∷ counted (sliced 0 2801 (slice 0xAF ++ slice 0xAF)) gives is 5
    -- each group by its own header
    ∷ counted (sliced_group 1 496 (slice 0) (sliced 0 496 (slice 0x1F))) gives is 7
    ∷ counted (sliced_group 0 496 (slice 0x1F) (sliced 1 496 (slice 0x1F))) gives refused VALUE_SLICE_ROW (at 53 ++ bit 0)
    -- picture and slice bodies hold a nonzero byte; user data may be empty; an extension body has a byte
    ∷ counted (group (unit 0xB3 [] ++ slice 0 ++ sequence_end)) gives refused SHORT (at 19)
    ∷ counted (group (unit 0xB3 (0 ∷ []) ++ slice 0 ++ sequence_end)) gives refused SHORT (at 19)
    ∷ counted (group (unit 0xB3 (0 ∷ 1 ∷ []) ++ slice 0 ++ sequence_end)) gives is 4
    ∷ counted (group (picture ++ unit 0 [] ++ sequence_end)) gives refused SHORT (at 24)
    ∷ counted (group (picture ++ unit 0 (0 ∷ 0 ∷ []) ++ sequence_end)) gives refused SHORT (at 24)
    ∷ counted (group (user_data [] ++ picture ++ user_data [] ++ slice 0 ++ sequence_end)) gives is 6
    ∷ counted (group (extension [] ++ picture ++ slice 0 ++ sequence_end)) gives refused SHORT (at 19)
    ∷ counted (group (picture ++ extension [] ++ slice 0 ++ sequence_end)) gives refused SHORT (at 24)
    -- SHORT before VALUE in a slice
    ∷ counted (group (picture ++ unit 0x44 [] ++ sequence_end)) gives refused SHORT (at 24)
    -- one display extension in a group's head; a second is TWICE, after SHORT and before its fields
    ∷ counted (group (extension plain_body ++ picture ++ slice 0 ++ group (extension plain_body ++ picture ++ slice 0 ++ sequence_end))) gives is 9
    ∷ counted (group (extension plain_body ++ extension coloured_body)) gives refused TWICE (at 29)
    ∷ counted (group (extension plain_body ++ extension (take 5 plain_body))) gives refused SHORT (at 29)
    ∷ counted (group (extension plain_body ++ extension (body 6 (changed 7 3 plain_fields)))) gives refused TWICE (at 29)
    ∷ counted (group (extension plain_body ++ extension copyright_body ++ extension copyright_body ++ picture ++ slice 0 ++ sequence_end)) gives is 7
    -- endings
    ∷ counted (group (picture ++ slice 0 ++ edit_code)) gives is 4
    ∷ counted (group (picture ++ slice 0 ++ sequence_end ++ edit_code)) gives is 5
    ∷ counted (group (picture ++ slice 0 ++ edit_code ++ sequence_end)) gives refused OUT_OF_PLACE (at 33)
    ∷ counted (group (picture ++ slice 0 ++ sequence_end ++ sequence_end)) gives refused OUT_OF_PLACE (at 33)
    ∷ counted (group (picture ++ slice 0 ++ sequence_end ++ edit_code ++ edit_code)) gives refused OUT_OF_PLACE (at 37)
    ∷ counted (group (picture ++ slice 0 ++ sequence_end ++ group (picture ++ slice 0 ++ sequence_end))) gives refused OUT_OF_PLACE (at 33)
    ∷ counted (group (picture ++ slice 0 ++ unit 0xB1 (0 ∷ []))) gives refused STUFFING (at 29)
    ∷ counted (group (picture ++ slice 0 ++ unit 0xB7 (0x80 ∷ []))) gives refused STUFFING (at 29)
    ∷ counted (group (picture ++ slice 0)) gives refused UNENDED (at 29)
    ∷ counted (group []) gives refused UNENDED (at 19)
    -- what may stand where: at the stream's start, in a group's head, after a picture header, after a slice, after B1 and after B7.
    -- The body 80 is SHORT for B0 and STUFFING for B1 and B7; what may stand otherwise leaves the stream UNENDED
    ∷ next_unit [] gives done (5 ∷ 6 ∷ 5 ∷ 5 ∷ 5 ∷ 4 ∷ 5 ∷ 5 ∷ 5 ∷ 4 ∷ [])
    ∷ next_unit (group []) gives done (5 ∷ 5 ∷ 5 ∷ 11 ∷ 11 ∷ 4 ∷ 11 ∷ 5 ∷ 5 ∷ 4 ∷ [])
    ∷ next_unit (group picture) gives done (11 ∷ 5 ∷ 5 ∷ 11 ∷ 5 ∷ 4 ∷ 11 ∷ 5 ∷ 5 ∷ 4 ∷ [])
    ∷ next_unit (group (picture ++ slice 0)) gives done (11 ∷ 6 ∷ 9 ∷ 5 ∷ 11 ∷ 4 ∷ 5 ∷ 11 ∷ 9 ∷ 4 ∷ [])
    ∷ next_unit (group (picture ++ slice 0 ++ inter_picture)) gives done (11 ∷ 5 ∷ 5 ∷ 11 ∷ 5 ∷ 4 ∷ 11 ∷ 5 ∷ 5 ∷ 4 ∷ [])
    ∷ next_unit (group (picture ++ slice 0 ++ sequence_end)) gives done (5 ∷ 5 ∷ 5 ∷ 5 ∷ 5 ∷ 4 ∷ 5 ∷ 5 ∷ 9 ∷ 4 ∷ [])
    ∷ next_unit (group (picture ++ slice 0 ++ edit_code)) gives done (5 ∷ 5 ∷ 5 ∷ 5 ∷ 5 ∷ 4 ∷ 5 ∷ 5 ∷ 5 ∷ 4 ∷ [])
    ∷ next_unit (group (picture ++ slice 0 ++ sequence_end ++ edit_code)) gives done (5 ∷ 5 ∷ 5 ∷ 5 ∷ 5 ∷ 4 ∷ 5 ∷ 5 ∷ 5 ∷ 4 ∷ [])
    ∷ counted (group (picture ++ slice 0 ++ picture ++ slice 0 ++ inter_picture ++ slice 0 ++ sequence_end)) gives is 8
    -- lengths: zeros stay in user data and opaque extensions, number 2 after a picture header among them, and go elsewhere
    ∷ rows_of (unit 0xB0 (header 0x80 ++ 0 ∷ 0 ∷ []) ++ picture ++ slice 0 ++ sequence_end) gives done (176 ∷ 0 ∷ 15 ∷ 179 ∷ 21 ∷ 1 ∷ 0 ∷ 26 ∷ 1 ∷ 177 ∷ 31 ∷ 0 ∷ [])
    ∷ rows_of (group (user_data (0x41 ∷ 0 ∷ 0 ∷ []) ++ extension (0x30 ∷ 0 ∷ 0 ∷ []) ++ extension (plain_body ++ 0 ∷ 0 ∷ []) ++ extension (copyright_body ++ 0 ∷ []) ++ unit 0xB3 (0x80 ∷ 0 ∷ []) ++ slice 0 ++ sequence_end))
    gives done (176 ∷ 0 ∷ 15 ∷ 178 ∷ 19 ∷ 3 ∷ 181 ∷ 26 ∷ 3 ∷ 181 ∷ 33 ∷ 6 ∷ 181 ∷ 45 ∷ 12 ∷ 179 ∷ 62 ∷ 1 ∷ 0 ∷ 68 ∷ 1 ∷ 177 ∷ 73 ∷ 0 ∷ [])
    ∷ rows_of (group (picture ++ extension (0x20 ∷ 0 ∷ []) ++ extension (plain_body ++ 0 ∷ []) ++ extension (copyright_body ++ 0 ∷ 0 ∷ []) ++ user_data (0 ∷ []) ++ unit 0 (0x80 ∷ 0 ∷ 0 ∷ []) ++ sequence_end))
    gives done (176 ∷ 0 ∷ 15 ∷ 179 ∷ 19 ∷ 1 ∷ 181 ∷ 24 ∷ 2 ∷ 181 ∷ 30 ∷ 7 ∷ 181 ∷ 41 ∷ 12 ∷ 178 ∷ 59 ∷ 1 ∷ 0 ∷ 64 ∷ 1 ∷ 177 ∷ 71 ∷ 0 ∷ [])
    -- a row exists when the rows hold it and offset + 4 + length is within the stream
    ∷ exists 10 (0 ∷ 0 ∷ 6 ∷ []) 0 gives is 1
    ∷ exists 10 (0 ∷ 0 ∷ 7 ∷ []) 0 gives is 0
    ∷ exists 10 (0 ∷ 6 ∷ 0 ∷ []) 0 gives is 1
    ∷ exists 10 (0 ∷ 7 ∷ 0 ∷ []) 0 gives is 0
    ∷ exists 10 (0 ∷ 0 ∷ []) 0 gives is 0
    ∷ exists 10 (0 ∷ 0 ∷ 0 ∷ 0 ∷ 0 ∷ []) 1 gives is 0
    ∷ exists 10 (0 ∷ 9 ∷ 9 ∷ 0 ∷ 0 ∷ 0 ∷ []) 1 gives is 1
    -- its part of the stream; for no row the empty part
    ∷ part_of (1 ∷ 2 ∷ 3 ∷ 4 ∷ 5 ∷ 6 ∷ 7 ∷ 8 ∷ []) (0 ∷ 2 ∷ 2 ∷ []) 0 gives done (7 ∷ 8 ∷ [])
    ∷ part_of (1 ∷ 2 ∷ 3 ∷ 4 ∷ 5 ∷ 6 ∷ 7 ∷ 8 ∷ []) (0 ∷ 0 ∷ 1 ∷ 0 ∷ 1 ∷ 2 ∷ []) 1 gives done (6 ∷ 7 ∷ [])
    ∷ part_of (1 ∷ 2 ∷ 3 ∷ 4 ∷ 5 ∷ 6 ∷ 7 ∷ 8 ∷ []) (0 ∷ 2 ∷ 3 ∷ []) 0 gives done []
    -- group g, counted from 0; NO ROW; the stream's refusal first
    ∷ group_is (two_groups sequence_end) 0 gives done (0x48 ∷ 0x40 ∷ 0 ∷ 1920 ∷ 1080 ∷ 1 ∷ 1 ∷ 3 ∷ 3 ∷ 20000 ∷ 0 ∷ 64 ∷ 2 ∷ 6 ∷ 0 ∷ 9 ∷ 4 ∷ 5 ∷ 1280 ∷ 704 ∷ 1 ∷ [])
    ∷ group_is (two_groups sequence_end) 1 gives done (72 ∷ 65 ∷ 1 ∷ 720 ∷ 576 ∷ 2 ∷ 1 ∷ 3 ∷ 4 ∷ 1935008 ∷ 0 ∷ 200000 ∷ [])
    ∷ group_is (two_groups sequence_end) 2 gives no NO_ROW
    ∷ group_is (two_groups []) 2 gives refused UNENDED (at 86)
    ∷ []

-- ── document 02, E1: a number for each field, and the bit place inside the body ──

-- a good group and a picture with a slice, 29 bytes, and what follows them
abbrev pub after_group : List ℕ → List ℕ
after_group rest = group (picture ++ slice 0 ++ rest)

abbrev pub bit_limits : List Example
bit_limits =
    done (VALUE_WIDTH ∷ VALUE_HEIGHT ∷ VALUE_CHROMA ∷ VALUE_PRECISION ∷ VALUE_ASPECT ∷ VALUE_RATE ∷ []) gives done (20 ∷ 21 ∷ 22 ∷ 23 ∷ 24 ∷ 25 ∷ [])
    ∷ done (VALUE_TRANSFER ∷ VALUE_MATRIX ∷ VALUE_STEREO ∷ VALUE_COPYRIGHT_OWNER ∷ VALUE_COPYRIGHT_NUMBER ∷ []) gives done (26 ∷ 27 ∷ 28 ∷ 29 ∷ 30 ∷ [])
    ∷ done (VALUE_SLICE_ORDER ∷ VALUE_SLICE_ROW ∷ []) gives done (31 ∷ 32 ∷ [])
    -- the fields of a sequence header: sizes, chroma, precision, aspect, rate, and its markers
    ∷ refusal (header_with 3 0) gives refused VALUE_WIDTH (bit 17)
    ∷ refusal (header_with 4 0) gives refused VALUE_HEIGHT (bit 31)
    ∷ refusal (header_with 5 3) gives refused VALUE_CHROMA (bit 45)
    ∷ refusal (header_with 6 2) gives refused VALUE_PRECISION (bit 47)
    ∷ refusal (header_with 7 5) gives refused VALUE_ASPECT (bit 50)
    ∷ refusal (header_with 8 9) gives refused VALUE_RATE (bit 54)
    ∷ refusal (header_with 10 0) gives refused MARKER (bit 76)
    ∷ refusal (header_with 13 0) gives refused MARKER (bit 90)
    -- of a display extension, without colour and with it
    ∷ refusal (plain_with 5 0) gives refused MARKER (bit 23)
    ∷ refusal (plain_with 7 3) gives refused VALUE_STEREO (bit 38)
    ∷ refusal (coloured_with 5 3) gives refused VALUE_TRANSFER (bit 17)
    ∷ refusal (coloured_with 6 8) gives refused VALUE_MATRIX (bit 25)
    ∷ refusal (coloured_with 8 0) gives refused MARKER (bit 47)
    ∷ refusal (coloured_with 10 3) gives refused VALUE_STEREO (bit 62)
    -- of a copyright extension
    ∷ refusal (copyright_with 5 0) gives refused MARKER (bit 21)
    ∷ refusal (copyright_with 7 0) gives refused MARKER (bit 42)
    ∷ refusal (copyright_with 9 0) gives refused MARKER (bit 65)
    ∷ refusal (copyright_with 1 0) gives refused VALUE_COPYRIGHT_OWNER (bit 5)
    ∷ refusal (copyright_with 2 0) gives refused VALUE_COPYRIGHT_NUMBER (bit 22)
    -- in a stream beside the offset, which is the unit's: in the first group and in a later one, in a group's head and after a picture
    ∷ counted (unit 0xB0 (body 15 (changed 8 0 least_header))) gives refused VALUE_RATE (at 0 ++ bit 54)
    ∷ counted (after_group (unit 0xB0 (body 15 (changed 13 0 least_header)))) gives refused MARKER (at 29 ++ bit 90)
    ∷ counted (group (extension (body 6 (changed 7 3 plain_fields)))) gives refused VALUE_STEREO (at 19 ++ bit 38)
    ∷ counted (after_group (group (extension (body 9 (changed 10 3 coloured_fields))))) gives refused VALUE_STEREO (at 48 ++ bit 62)
    ∷ counted (group (picture ++ extension (body 12 (copyright_fields 1 0 0 0 1)))) gives refused VALUE_COPYRIGHT_NUMBER (at 24 ++ bit 22)
    ∷ counted (after_group (group (picture ++ slice 2 ++ slice 1))) gives refused VALUE_SLICE_ORDER (at 58 ++ bit 0)
    ∷ counted (after_group (group (picture ++ slice 0x44))) gives refused VALUE_SLICE_ROW (at 53 ++ bit 0)
    -- the group question as filing, whichever group is asked for
    ∷ group_is (after_group (group (extension (body 9 (changed 6 0 coloured_fields))))) 0 gives refused VALUE_MATRIX (at 48 ++ bit 25)
    ∷ group_is (after_group (group (picture ++ slice 0x44))) 5 gives refused VALUE_SLICE_ROW (at 53 ++ bit 0)
    ∷ []

-- ── document 02, E12: what follows a B0 start code is filed, and what follows any other place is not ──

-- two groups; the first has user data with zeros at its end, and the second, at byte 36, has B1 then B7 after it
abbrev pub cut_at : ℕ → List ℕ
cut_at n = drop n (group (user_data (0x41 ∷ 0 ∷ 0 ∷ []) ++ picture ++ slice 0 ++ group (picture ++ slice 0 ++ sequence_end ++ edit_code)))

abbrev pub cut_limits : List Example
cut_limits =
    rows_of (cut_at 0) gives done (176 ∷ 0 ∷ 15 ∷ 178 ∷ 19 ∷ 3 ∷ 179 ∷ 26 ∷ 1 ∷ 0 ∷ 31 ∷ 1 ∷ 176 ∷ 36 ∷ 15 ∷ 179 ∷ 55 ∷ 1 ∷ 0 ∷ 60 ∷ 1 ∷ 177 ∷ 65 ∷ 0 ∷ 183 ∷ 69 ∷ 0 ∷ [])
    ∷ rows_of (cut_at 36) gives done (176 ∷ 0 ∷ 15 ∷ 179 ∷ 19 ∷ 1 ∷ 0 ∷ 24 ∷ 1 ∷ 177 ∷ 29 ∷ 0 ∷ 183 ∷ 33 ∷ 0 ∷ [])
    -- beside them, at a code byte, at zeros before a start code, at the stream's end and past it
    ∷ statuses (λ n. filing (cut_at n)) (1 ∷ 3 ∷ 24 ∷ 25 ∷ 35 ∷ 37 ∷ 38 ∷ 39 ∷ 72 ∷ 73 ∷ 74 ∷ []) gives done (1 ∷ 1 ∷ 1 ∷ 1 ∷ 1 ∷ 1 ∷ 1 ∷ 1 ∷ 1 ∷ 1 ∷ 1 ∷ [])
    -- at the start codes of user data, pictures, slices, B1 and B7
    ∷ statuses (λ n. filing (cut_at n)) (19 ∷ 26 ∷ 31 ∷ 55 ∷ 60 ∷ 65 ∷ 69 ∷ []) gives done (5 ∷ 5 ∷ 5 ∷ 5 ∷ 5 ∷ 5 ∷ 5 ∷ [])
    ∷ counted (cut_at 65) gives refused OUT_OF_PLACE (at 0)
    ∷ []

-- ── "Escape removal" and Exp-Golomb numbers ──

abbrev pub payload_limits : List Example
payload_limits =
    -- an 02 with both raw bytes before it 00; any other byte stays whole
    unescaped (0 ∷ 0 ∷ 2 ∷ 0xFF ∷ []) (1 ∷ 1 ∷ 1 ∷ 1 ∷ []) gives done (30 ∷ 0 ∷ 0 ∷ 3 ∷ 0xFC ∷ [])
    ∷ unescaped (0 ∷ 0 ∷ 0 ∷ 2 ∷ []) (1 ∷ 1 ∷ 1 ∷ 1 ∷ []) gives done (30 ∷ 0 ∷ 0 ∷ 0 ∷ 0 ∷ [])
    ∷ unescaped (2 ∷ 0 ∷ 0 ∷ 2 ∷ 0xC0 ∷ []) (1 ∷ 1 ∷ 1 ∷ 1 ∷ 1 ∷ []) gives done (38 ∷ 2 ∷ 0 ∷ 0 ∷ 3 ∷ 0 ∷ [])
    ∷ unescaped (0 ∷ 0 ∷ 3 ∷ []) (1 ∷ 1 ∷ 1 ∷ []) gives done (24 ∷ 0 ∷ 0 ∷ 3 ∷ [])
    ∷ unescaped (0 ∷ 0 ∷ 1 ∷ []) (1 ∷ 1 ∷ 1 ∷ []) gives done (24 ∷ 0 ∷ 0 ∷ 1 ∷ [])
    ∷ unescaped (0 ∷ 0 ∷ 6 ∷ []) (1 ∷ 1 ∷ 1 ∷ []) gives done (24 ∷ 0 ∷ 0 ∷ 6 ∷ [])
    ∷ unescaped (0 ∷ 0 ∷ 0x82 ∷ []) (1 ∷ 1 ∷ 1 ∷ []) gives done (24 ∷ 0 ∷ 0 ∷ 0x82 ∷ [])
    ∷ unescaped (0 ∷ 1 ∷ 2 ∷ []) (1 ∷ 1 ∷ 1 ∷ []) gives done (24 ∷ 0 ∷ 1 ∷ 2 ∷ [])
    ∷ unescaped (1 ∷ 0 ∷ 2 ∷ []) (1 ∷ 1 ∷ 1 ∷ []) gives done (24 ∷ 1 ∷ 0 ∷ 2 ∷ [])
    -- at the payload's start
    ∷ unescaped [] [] gives is 0
    ∷ unescaped (2 ∷ []) (1 ∷ []) gives done (8 ∷ 2 ∷ [])
    ∷ unescaped (0 ∷ 2 ∷ []) (1 ∷ 1 ∷ []) gives done (16 ∷ 0 ∷ 2 ∷ [])
    -- escapes in a row; four of them make the output a byte shorter
    ∷ unescaped (0 ∷ 0 ∷ 2 ∷ 2 ∷ []) (1 ∷ 1 ∷ 1 ∷ 1 ∷ []) gives done (30 ∷ 0 ∷ 0 ∷ 0 ∷ 8 ∷ [])
    ∷ unescaped (0 ∷ 0 ∷ 2 ∷ 0 ∷ 0 ∷ 2 ∷ 0xFF ∷ []) (1 ∷ 1 ∷ 1 ∷ 1 ∷ 1 ∷ 1 ∷ 1 ∷ []) gives done (52 ∷ 0 ∷ 0 ∷ 0 ∷ 0 ∷ 0 ∷ 0x0F ∷ 0xF0 ∷ [])
    ∷ unescaped (0 ∷ 0 ∷ 2 ∷ 0 ∷ 0 ∷ 2 ∷ 0 ∷ 0 ∷ 2 ∷ 0 ∷ 0 ∷ 2 ∷ []) (1 ∷ 1 ∷ 1 ∷ 1 ∷ 1 ∷ 1 ∷ 1 ∷ 1 ∷ 1 ∷ 1 ∷ 1 ∷ 1 ∷ [])
    gives done (88 ∷ 0 ∷ 0 ∷ 0 ∷ 0 ∷ 0 ∷ 0 ∷ 0 ∷ 0 ∷ 0 ∷ 0 ∷ 0 ∷ 1 ∷ [])
    -- later bytes stay; FULL where the output is shorter than the payload; TOO LONG first
    ∷ unescaped (7 ∷ 8 ∷ []) (1 ∷ 1 ∷ 1 ∷ []) gives done (16 ∷ 7 ∷ 8 ∷ 1 ∷ [])
    ∷ unescaped (7 ∷ 8 ∷ []) (1 ∷ []) gives no FULL
    ∷ unescaped (replicate 65536 0) [] gives no FULL
    ∷ unescaped (replicate 65537 0) [] gives no TOO_LONG
    -- 31 zeros, and 32, which are VALUE whatever follows; where the bits end first, PAYLOAD OUT
    ∷ number_at (after_zeros (0x00 ∷ 0x00 ∷ 0x00 ∷ 0x00 ∷ [])) 63 0 gives done (2147483647 ∷ 63 ∷ [])
    ∷ number_at (after_zeros (0xFF ∷ 0xFF ∷ 0xFF ∷ 0xFE ∷ [])) 63 0 gives done (4294967294 ∷ 63 ∷ [])
    ∷ number_at (after_zeros (0xFF ∷ 0xFF ∷ 0xFF ∷ 0xFE ∷ [])) 62 0 gives payload_out 1
    ∷ number_at (after_zeros []) 32 0 gives payload_out 31
    ∷ number_at (after_zeros []) 31 0 gives payload_out 1
    ∷ number_at (replicate 4 0) 32 0 gives no VALUE
    ∷ number_at (replicate 4 0) 32 1 gives payload_out 1
    ∷ number_at (replicate 4 0 ++ 0x80 ∷ 0 ∷ 0 ∷ 0 ∷ 0 ∷ []) 72 0 gives no VALUE
    ∷ number_at (replicate 4 0 ++ 0x80 ∷ 0 ∷ 0 ∷ 0 ∷ 0 ∷ []) 72 1 gives done (2147483647 ∷ 64 ∷ [])
    -- z zeros, a 1, z bits, from a place: 00110 is 5, 0001010 is 9
    ∷ number_at (0x30 ∷ []) 5 0 gives done (5 ∷ 5 ∷ [])
    ∷ number_at (0x14 ∷ []) 8 0 gives done (9 ∷ 7 ∷ [])
    ∷ number_at (0x14 ∷ []) 8 1 gives done (4 ∷ 6 ∷ [])
    ∷ number_at (0x14 ∷ []) 8 3 gives done (0 ∷ 4 ∷ [])
    -- the last bit, and past it, where the bit count or the bytes end
    ∷ number_at (0xFF ∷ []) 4 3 gives done (0 ∷ 4 ∷ [])
    ∷ number_at (0xFF ∷ []) 4 4 gives payload_out 1
    ∷ number_at (0xFF ∷ []) 99 7 gives done (0 ∷ 8 ∷ [])
    ∷ number_at (0xFF ∷ []) 99 8 gives payload_out 1
    ∷ number_at (0xFF ∷ []) 8 99 gives payload_out 1
    -- how many bits are missing: zeros and the 1 bit by bit, the z bits after it at once; z is 0, 3, 7 and 31
    ∷ missings (λ bits. number_at (0x80 ∷ []) bits 0) (0 ∷ 1 ∷ []) gives done (1 ∷ 0 ∷ [])
    ∷ missings (λ bits. number_at (0x1F ∷ []) bits 0) (0 ∷ 1 ∷ 2 ∷ 3 ∷ 4 ∷ 5 ∷ 6 ∷ 7 ∷ []) gives done (1 ∷ 1 ∷ 1 ∷ 1 ∷ 3 ∷ 2 ∷ 1 ∷ 0 ∷ [])
    ∷ missings (λ bits. number_at (0x01 ∷ 0xFF ∷ []) bits 0) (8 ∷ 9 ∷ 14 ∷ 15 ∷ []) gives done (7 ∷ 6 ∷ 1 ∷ 0 ∷ [])
    ∷ missings (λ bits. number_at (after_zeros (0xFF ∷ 0xFF ∷ 0xFF ∷ 0xFE ∷ [])) bits 0) (31 ∷ 32 ∷ 33 ∷ 47 ∷ 62 ∷ 63 ∷ []) gives done (1 ∷ 31 ∷ 30 ∷ 16 ∷ 1 ∷ 0 ∷ [])
    -- by the bytes, where the bit count is greater; by the place of the number
    ∷ number_at (0x01 ∷ []) 99 0 gives payload_out 7
    ∷ missings (number_at (0x01 ∷ []) 8) (0 ∷ 1 ∷ 6 ∷ 7 ∷ 8 ∷ 9 ∷ []) gives done (7 ∷ 6 ∷ 1 ∷ 0 ∷ 1 ∷ 1 ∷ [])
    ∷ number_at [] 0 0 gives payload_out 1
    -- TOO LONG looks at the bytes, whatever the bit count
    ∷ number_at (replicate 65536 0xFF) 1 0 gives done (0 ∷ 1 ∷ [])
    ∷ number_at (replicate 65537 0xFF) 1 0 gives no TOO_LONG
    -- signed: (n + 1)/2 when odd, -(n/2) when even
    ∷ signed_of 0 stands_as pos 0
    ∷ signed_of 1 stands_as pos 1
    ∷ signed_of 2 stands_as neg_ℤ (pos 1)
    ∷ signed_of 3 stands_as pos 2
    ∷ signed_of 4 stands_as neg_ℤ (pos 2)
    ∷ signed_of 4294967293 stands_as pos 2147483647
    ∷ signed_of 4294967294 stands_as neg_ℤ (pos 2147483647)
    ∷ signed_number (after_zeros (0xFF ∷ 0xFF ∷ 0xFF ∷ 0xFE ∷ [])) 63 stands_as neg_ℤ (pos 2147483647)
    ∷ []

-- ── "Bins" ──

abbrev pub bin_limits : List Example
bin_limits =
    -- the start wants nine bits, and more until valueT is 256
    statuses (start_of (0x80 ∷ 0x00 ∷ [])) (8 ∷ 9 ∷ 99 ∷ []) gives done (14 ∷ 0 ∷ 0 ∷ [])
    ∷ statuses (start_of (0x01 ∷ 0x00 ∷ [])) (15 ∷ 16 ∷ []) gives done (14 ∷ 0 ∷ [])
    ∷ map_done state_numbers (start_of (0x01 ∷ 0x00 ∷ []) 16) gives done (0 ∷ 255 ∷ 7 ∷ 0 ∷ 16 ∷ [])
    ∷ map_done state_numbers (start_of (0x7F ∷ 0xC0 ∷ []) 16) gives done (0 ∷ 255 ∷ 1 ∷ 255 ∷ 10 ∷ [])
    ∷ map_done state_numbers (start_of (0xFF ∷ 0x80 ∷ []) 9) gives done (0 ∷ 255 ∷ 0 ∷ 255 ∷ 9 ∷ [])
    ∷ map_done state_numbers (start_of payload 24) gives done (0 ∷ 255 ∷ 0 ∷ 74 ∷ 9 ∷ [])
    ∷ map_done state_numbers (start_of (replicate 65536 0xFF) 9) gives done (0 ∷ 255 ∷ 0 ∷ 255 ∷ 9 ∷ [])
    ∷ map_done state_numbers (start_of (replicate 65537 0xFF) 9) gives no TOO_LONG
    -- how many bits are missing: of the nine at once, by the bit count and by the bytes; then bit by bit, one
    ∷ missings (start_of (0x80 ∷ 0x00 ∷ [])) (0 ∷ 1 ∷ 2 ∷ 3 ∷ 4 ∷ 5 ∷ 6 ∷ 7 ∷ 8 ∷ 9 ∷ []) gives done (9 ∷ 8 ∷ 7 ∷ 6 ∷ 5 ∷ 4 ∷ 3 ∷ 2 ∷ 1 ∷ 0 ∷ [])
    ∷ missings (start_of []) (0 ∷ 99 ∷ []) gives done (9 ∷ 9 ∷ [])
    ∷ missings (start_of (0x80 ∷ [])) (8 ∷ 99 ∷ []) gives done (1 ∷ 1 ∷ [])
    ∷ missings (start_of (0x01 ∷ 0x00 ∷ [])) (8 ∷ 9 ∷ 15 ∷ 16 ∷ []) gives done (1 ∷ 1 ∷ 1 ∷ 0 ∷ [])
    ∷ map_done state_numbers (start_of (0x00 ∷ 0x00 ∷ 0x00 ∷ []) 24) gives payload_out 1
    ∷ map_done state_numbers (start_of (0x00 ∷ 0x40 ∷ []) 16) gives payload_out 1
    -- of each kind of bin one: a doubling of R and of valueT, and the borrowed bit
    ∷ one_bin 0 (state 0 200 0 100 24) gives payload_out 1
    ∷ one_bin 0 (state 0 99 0 100 24) gives payload_out 1
    ∷ pair_bin (state 0 100 0 50 24) (context 0 500 0) (context 0 301 2) gives payload_out 1
    ∷ bypass (state 0 255 0 74 24) gives payload_out 1
    ∷ stuffing (state 0 254 0 253 24) gives payload_out 1
    -- BAD STATE: rS, rT, valueS, valueT, place; the place by the bit count, or by the bytes where they hold fewer
    ∷ statuses (λ v. by_state (state v 255 1 0 9)) (0 ∷ 1 ∷ 2 ∷ []) gives done (0 ∷ 0 ∷ 15 ∷ [])
    ∷ statuses (λ v. by_state (state 0 v 1 0 9)) (0 ∷ 255 ∷ 256 ∷ []) gives done (0 ∷ 0 ∷ 15 ∷ [])
    ∷ statuses (λ v. by_state (state 0 100 v 50 9)) (524288 ∷ 524289 ∷ []) gives done (0 ∷ 15 ∷ [])
    ∷ statuses (λ v. by_state (state 0 100 1 v 9)) (0 ∷ 255 ∷ 256 ∷ []) gives done (0 ∷ 0 ∷ 15 ∷ [])
    ∷ statuses (λ v. by_state (state 0 100 3 50 v)) (0 ∷ 24 ∷ 25 ∷ []) gives done (0 ∷ 0 ∷ 15 ∷ [])
    ∷ statuses (λ v. bypass_of payload 20 (state 0 100 3 50 v)) (20 ∷ 21 ∷ []) gives done (0 ∷ 15 ∷ [])
    ∷ statuses (λ v. bypass_of payload 99 (state 0 100 3 50 v)) (24 ∷ 25 ∷ []) gives done (0 ∷ 15 ∷ [])
    -- mps, lg and cycno, of one context and of each of two
    ∷ statuses (λ v. by_context (context v 500 0)) (0 ∷ 1 ∷ 2 ∷ []) gives done (0 ∷ 0 ∷ 15 ∷ [])
    ∷ statuses (λ v. by_context (context 0 v 0)) (3 ∷ 4 ∷ 1023 ∷ 1024 ∷ []) gives done (15 ∷ 0 ∷ 0 ∷ 15 ∷ [])
    ∷ statuses (λ v. by_context (context 0 500 v)) (0 ∷ 3 ∷ 4 ∷ []) gives done (0 ∷ 0 ∷ 15 ∷ [])
    ∷ statuses (λ v. pair_bin (state 0 255 1 0 9) (context 0 v 0) (context 0 500 0)) (3 ∷ 4 ∷ []) gives done (15 ∷ 0 ∷ [])
    ∷ statuses (λ v. pair_bin (state 0 255 1 0 9) (context 0 500 0) (context 0 v 0)) (3 ∷ 4 ∷ []) gives done (15 ∷ 0 ∷ [])
    -- TOO LONG, then BAD STATE, then PAYLOAD OUT
    ∷ statuses (λ v. bypass_of (replicate 65537 0) 24 (state v 255 1 0 9)) (1 ∷ 2 ∷ []) gives done (13 ∷ 13 ∷ [])
    ∷ statuses (λ v. by_state (state v 255 1 0 24)) (1 ∷ 2 ∷ []) gives done (14 ∷ 15 ∷ [])
    ∷ statuses (λ bits. bypass_of payload bits (state 0 255 0 74 9)) (10 ∷ 11 ∷ []) gives done (14 ∷ 0 ∷ [])
    -- one bin, q 100: s = valueS with valueT below t, at t and over; rT at q and below; s over valueS
    ∷ one_bin 0 (state 0 200 0 99 9) gives done (0 ∷ 0 ∷ 100 ∷ 0 ∷ 99 ∷ 9 ∷ [])
    ∷ one_bin 0 (state 0 200 0 100 9) gives done (1 ∷ 0 ∷ 144 ∷ 8 ∷ 228 ∷ 19 ∷ [])
    ∷ one_bin 1 (state 0 200 0 101 9) gives done (0 ∷ 0 ∷ 144 ∷ 6 ∷ 121 ∷ 17 ∷ [])
    ∷ one_bin 0 (state 0 100 1 0 9) gives done (0 ∷ 0 ∷ 0 ∷ 1 ∷ 0 ∷ 9 ∷ [])
    ∷ one_bin 0 (state 0 100 0 0 9) gives done (1 ∷ 0 ∷ 144 ∷ 8 ∷ 228 ∷ 19 ∷ [])
    ∷ one_bin 0 (state 0 99 1 254 9) gives done (0 ∷ 1 ∷ 255 ∷ 1 ∷ 254 ∷ 9 ∷ [])
    ∷ one_bin 0 (state 0 99 1 255 9) gives done (1 ∷ 0 ∷ 142 ∷ 9 ∷ 228 ∷ 19 ∷ [])
    ∷ one_bin 0 (state 0 99 0 100 9) gives done (1 ∷ 0 ∷ 142 ∷ 0 ∷ 147 ∷ 11 ∷ [])
    -- bypass, q 255, with the 256; and the stuffing bin, q 1
    ∷ bypass (state 0 255 0 74 9) gives done (1 ∷ 0 ∷ 254 ∷ 1 ∷ 41 ∷ 11 ∷ [])
    ∷ bypass (state 0 254 1 254 9) gives done (0 ∷ 1 ∷ 255 ∷ 1 ∷ 254 ∷ 9 ∷ [])
    ∷ bypass (state 0 254 1 255 9) gives done (1 ∷ 0 ∷ 253 ∷ 10 ∷ 228 ∷ 19 ∷ [])
    ∷ bypass (state 0 254 0 254 9) gives done (1 ∷ 0 ∷ 253 ∷ 0 ∷ 253 ∷ 10 ∷ [])
    ∷ stuffing (state 0 254 0 252 9) gives done (0 ∷ 0 ∷ 253 ∷ 0 ∷ 252 ∷ 9 ∷ [])
    ∷ stuffing (state 0 254 0 253 9) gives done (1 ∷ 0 ∷ 0 ∷ 2 ∷ 228 ∷ 19 ∷ [])
    ∷ stuffing (state 0 0 1 254 9) gives done (0 ∷ 1 ∷ 255 ∷ 1 ∷ 254 ∷ 9 ∷ [])
    ∷ stuffing (state 0 0 1 255 9) gives done (1 ∷ 0 ∷ 0 ∷ 2 ∷ 228 ∷ 19 ∷ [])
    -- two contexts: equal mps; the first smaller, the second smaller, the tie
    ∷ paired (context 1 500 0) (context 1 301 2) gives done (1 ∷ 400 ∷ [])
    ∷ paired (context 0 301 0) (context 1 500 0) gives done (0 ∷ 924 ∷ [])
    ∷ paired (context 0 500 1) (context 1 300 3) gives done (1 ∷ 923 ∷ [])
    ∷ paired (context 0 400 0) (context 1 400 2) gives done (1 ∷ 1023 ∷ [])
    ∷ paired (context 1 400 0) (context 0 400 2) gives done (0 ∷ 1023 ∷ [])
    ∷ paired (context 0 4 0) (context 1 1023 0) gives done (0 ∷ 514 ∷ [])
    -- both are then updated
    ∷ pair_bin (state 0 100 0 50 9) (context 0 500 0) (context 0 301 2) gives done (1 ∷ 0 ∷ 697 ∷ 1 ∷ 0 ∷ 396 ∷ 3 ∷ [])
    ∷ pair_bin (state 0 100 0 50 9) (context 0 400 0) (context 1 400 2) gives done (0 ∷ 0 ∷ 338 ∷ 1 ∷ 1 ∷ 495 ∷ 3 ∷ [])
    ∷ pair_bin (state 0 100 3 50 9) (context 0 4 0) (context 1 1023 0) gives done (0 ∷ 0 ∷ 4 ∷ 1 ∷ 0 ∷ 827 ∷ 1 ∷ [])
    -- the bin is mps: w 3, 3, 4, 5
    ∷ updated (context 0 500 0) 0 gives done (0 ∷ 423 ∷ 1 ∷ [])
    ∷ updated (context 0 500 1) 0 gives done (0 ∷ 423 ∷ 1 ∷ [])
    ∷ updated (context 0 500 2) 0 gives done (0 ∷ 462 ∷ 2 ∷ [])
    ∷ updated (context 0 500 3) 0 gives done (0 ∷ 482 ∷ 3 ∷ [])
    ∷ updated (context 1 1023 0) 1 gives done (1 ∷ 865 ∷ 1 ∷ [])
    ∷ updated (context 0 8 0) 0 gives done (0 ∷ 7 ∷ 1 ∷ [])
    ∷ updated (context 0 4 0) 0 gives done (0 ∷ 4 ∷ 1 ∷ [])
    -- it is not: gains 197, 197, 95, 46
    ∷ updated (context 0 500 0) 1 gives done (0 ∷ 697 ∷ 1 ∷ [])
    ∷ updated (context 0 500 2) 1 gives done (0 ∷ 595 ∷ 3 ∷ [])
    ∷ updated (context 0 500 3) 1 gives done (0 ∷ 546 ∷ 3 ∷ [])
    -- 1023 stays; over it, 2047 - lg, and mps flips
    ∷ updated (context 1 826 0) 0 gives done (1 ∷ 1023 ∷ 1 ∷ [])
    ∷ updated (context 1 827 0) 0 gives done (0 ∷ 1023 ∷ 1 ∷ [])
    ∷ updated (context 0 1023 0) 1 gives done (1 ∷ 827 ∷ 1 ∷ [])
    ∷ updated (context 0 928 2) 1 gives done (0 ∷ 1023 ∷ 3 ∷ [])
    ∷ updated (context 0 929 2) 1 gives done (1 ∷ 1023 ∷ 3 ∷ [])
    ∷ updated (context 0 978 3) 1 gives done (1 ∷ 1023 ∷ 3 ∷ [])
    -- document 02, E9: where an entry first loses 1, where it is less than the one before, the last one, and none
    ∷ entry Three 0 gives is 0
    ∷ entry Three 4 gives is 4
    ∷ entry Three 7 gives is 7
    ∷ entry Three 8 gives is 7
    ∷ entry Three 31 gives is 28
    ∷ entry Three 32 gives is 27
    ∷ entry Three 1022 gives is 864
    ∷ entry Three 1023 gives is 865
    ∷ entry Three 1024 gives done []
    ∷ entry Four 15 gives is 15
    ∷ entry Four 16 gives is 15
    ∷ entry Four 63 gives is 60
    ∷ entry Four 64 gives is 59
    ∷ entry Four 1023 gives is 945
    ∷ entry Four 1024 gives done []
    ∷ entry Five 31 gives is 31
    ∷ entry Five 32 gives is 31
    ∷ entry Five 127 gives is 124
    ∷ entry Five 128 gives is 123
    ∷ entry Five 1023 gives is 985
    ∷ entry Five 1024 gives done []
    ∷ []

-- ── "Slips the recorder has seen" ──

abbrev pub slips : List Example
slips =
    -- filling missing bits with zeros: 00100 is 3, and wants its last bit
    number_at (0x20 ∷ []) 5 0 gives done (3 ∷ 5 ∷ [])
    ∷ number_at (0x20 ∷ []) 4 0 gives payload_out 1
    ∷ statuses (start_of (0x80 ∷ [])) (8 ∷ 9 ∷ []) gives done (14 ∷ 14 ∷ [])
    -- reading number 2 after a picture header as a display extension
    ∷ after_picture plain_body gives is 2
    ∷ after_picture (0x2F ∷ []) gives is 2
    ∷ in_head (0x2F ∷ []) gives no SHORT
    ∷ counted (group (picture ++ extension (0x2F ∷ []) ++ extension (0x2F ∷ []) ++ slice 0 ++ sequence_end)) gives is 6
    -- testing for 00 00 02 on output bytes: here they have it, and the raw ones do not; then the other way about
    ∷ unescaped (0 ∷ 0 ∷ 2 ∷ 0 ∷ 0 ∷ 0 ∷ 0x80 ∷ []) (1 ∷ 1 ∷ 1 ∷ 1 ∷ 1 ∷ 1 ∷ 1 ∷ []) gives done (54 ∷ 0 ∷ 0 ∷ 0 ∷ 0 ∷ 0 ∷ 2 ∷ 0 ∷ [])
    ∷ unescaped (0 ∷ 0 ∷ 2 ∷ 0xC0 ∷ 0 ∷ 0 ∷ 2 ∷ []) (1 ∷ 1 ∷ 1 ∷ 1 ∷ 1 ∷ 1 ∷ 1 ∷ []) gives done (52 ∷ 0 ∷ 0 ∷ 3 ∷ 0 ∷ 0 ∷ 0 ∷ 0 ∷ [])
    -- stripping zeros from user data
    ∷ rows_of (group (user_data (0 ∷ []) ++ picture ++ slice 0 ++ edit_code)) gives done (176 ∷ 0 ∷ 15 ∷ 178 ∷ 19 ∷ 1 ∷ 179 ∷ 24 ∷ 1 ∷ 0 ∷ 29 ∷ 1 ∷ 183 ∷ 34 ∷ 0 ∷ [])
    -- updating lg with the w of the new cycno, which is 2
    ∷ updated (context 0 500 1) 1 gives done (0 ∷ 697 ∷ 2 ∷ [])
    ∷ []

-- ── the list ──

abbrev pub limits : List Example
limits = number_limits ++ unit_limits ++ header_limits ++ extension_limits ++ grammar_limits ++ bit_limits ++ cut_limits ++ payload_limits ++ bin_limits ++ slips
