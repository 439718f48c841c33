-- The examples of document 01, and the rules at their limits: each is one list under one statement.
use mathlib.Core.Path.{◌≡◌, refl}
use mathlib.Core.List.{List, [], ◌∷◌, map}
use Rattle.bits.specs.Bits.{bits_in, bits_of, bit_at, read_on, read_at, pack_on}
use Rattle.bits.specs.Lists.{All}
use Rattle.startcode.specs.Kinds.{kind_of}
use Rattle.startcode.specs.Prefix.{begins, before, next_prefix, steps}
use Rattle.layout.specs.Layouts.{fields, least_bytes}
use Rattle.layout.specs.Values.{ownership}
use Rattle.layout.specs.Reader.{allows, ruled, values_of, judge, cross, judged, ended, reading, owner_rules}
use Rattle.bodies.specs.Reader.{record_of, header_of, plain_of, coloured_of, copyright_of, display_short, display_of, by_number, extension_result, extension_of}
use Rattle.bodies.specs.Extensions.{numbered, is_opaque}
use Rattle.bodies.specs.Records.{header_record, plain_record, coloured_record, copyright_record}
use Rattle.bodies.specs.Answers.{value_number, fault_number, fault_bit, answer_of}
use Rattle.ratios.specs.Ratios.{entry_of, frame_rate, display_ratio}
use Rattle.macroblocks.specs.Macroblocks.{macroblock_rows}
use Rattle.grammar.specs.Rows.{row_length}
use Rattle.grammar.specs.Reader.{cut, step, walk_from, walk_of_any, walk, filing, walk_into, filing_into}
use Rattle.rows.specs.Rows.{held_row, in_stream, existing}
use Rattle.groups.specs.Reader.{display_in, group_in, group_at}
use Rattle.payload.specs.Escape.{kept, copied, removal}
use Rattle.payload.specs.Golomb.{stands_for}
use Rattle.payload.specs.Reader.{zeros_on, golomb, signed_golomb}
use Rattle.rates.specs.Rates.{rate_of, gain_of}
use Rattle.rates.specs.Tables.{next_lgs, table_of}
use Rattle.contexts.specs.Contexts.{good_context, next_cycno, fold_of, update_of}
use Rattle.aec.specs.Bins.{good_state, within_limit, refused_first, double_of, shifts, start_of, split_of, misses_of, remainder_of, unpredicted_of, step_of, pair_of, decode_of, decode_pair_of}
use Rattle.examples.specs.Examples.{Example, examples, Holds, bins}
use Rattle.examples.specs.Limits.{limits, written_on, bytes_in, changed}

-- the answers and what the document says, each as a list: where these are equal, each example holds
each : (es : List Example) → map (λ e. e.answer) es ≡ map (λ e. e.table) es → All Holds es
each [] eq = tt
each (e ∷ es) eq = (cc, each es cc)

pub examples_hold : All Holds examples
unfolding bits_in bits_of bit_at read_on read_at pack_on kind_of begins fields least_bytes allows ruled values_of judge cross judged ended reading header_record value_number fault_number fault_bit answer_of record_of header_of macroblock_rows row_length is_opaque numbered cut step walk_from walk_of_any walk filing walk_into filing_into kept copied removal zeros_on golomb stands_for signed_golomb good_state good_context within_limit refused_first double_of shifts start_of split_of misses_of remainder_of unpredicted_of step_of rate_of next_cycno gain_of fold_of update_of decode_of bins
examples_hold = each examples refl

pub limits_hold : All Holds limits
unfolding bits_in bits_of bit_at read_on read_at pack_on kind_of begins before next_prefix steps fields least_bytes allows ruled values_of judge cross judged ended reading header_record value_number fault_number fault_bit answer_of record_of header_of macroblock_rows row_length is_opaque numbered cut step walk_from walk_of_any walk filing held_row in_stream existing display_in group_in group_at kept copied removal zeros_on golomb stands_for signed_golomb good_state good_context within_limit refused_first double_of shifts start_of split_of misses_of remainder_of unpredicted_of step_of rate_of next_lgs table_of next_cycno gain_of fold_of update_of decode_of plain_record coloured_record copyright_record ownership plain_of coloured_of copyright_of owner_rules display_short display_of by_number extension_result extension_of entry_of frame_rate display_ratio pair_of decode_pair_of written_on bytes_in changed
limits_hold = each limits refl
