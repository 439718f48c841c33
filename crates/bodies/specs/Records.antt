-- Document 01, "Layouts": the record that the values of a layout's fields make.
-- Marker bits and reserved bits are not recorded.
use Rattle.std.specs.Prelude.{ℕ, ◌+◌, ◌*◌, List}
use Rattle.std.specs.Prelude.{None, Some}
use Rattle.std.proofs.Math.Option.{Option}
use Rattle.layout.specs.Values.{next, ◌>>=◌, made, copyright_number}
use Rattle.bodies.specs.declared.SequenceHeader.{SequenceHeader}
use Rattle.bodies.specs.declared.DisplayExtension.{DisplayExtension}
use Rattle.bodies.specs.declared.CopyrightExtension.{CopyrightExtension}

-- ── sequence header ──

-- Bit rate = high × 262,144 + low.
abbrev pub bit_rate : ℕ → ℕ → ℕ
bit_rate high low = high * 262144 + low

-- the record of a sequence header's values
unfoldable pub header_record : List ℕ → Option SequenceHeader
header_record = do
  profile ← next
  level ← next
  progressive ← next
  horizontal ← next
  vertical ← next
  chroma ← next
  precision ← next
  aspect ← next
  rate ← next
  low ← next
  marker₁ ← next
  high ← next
  delay ← next
  marker₂ ← next
  buffer ← next
  reserved ← next
  made (record {
    profile = profile;
    level = level;
    progressive = progressive;
    horizontal = horizontal;
    vertical = vertical;
    chroma = chroma;
    precision = precision;
    aspect = aspect;
    rate = rate;
    bitrate = bit_rate high low;
    delay = delay;
    buffer = buffer;
  })

-- ── display extension ──

-- the record of a display extension's values, where colour is not given
unfoldable pub plain_record : List ℕ → Option DisplayExtension
plain_record = do
  number ← next
  format ← next
  range ← next
  given ← next
  width ← next
  marker ← next
  height ← next
  stereo ← next
  made (record {
    format = format;
    range = range;
    colour = None;
    width = width;
    height = height;
    stereo = stereo;
  })

-- the same, where colour is given
unfoldable pub coloured_record : List ℕ → Option DisplayExtension
coloured_record = do
  number ← next
  format ← next
  range ← next
  given ← next
  primaries ← next
  transfer ← next
  matrix ← next
  width ← next
  marker ← next
  height ← next
  stereo ← next
  made (record {
    format = format;
    range = range;
    colour = Some (record { primaries = primaries; transfer = transfer; matrix = matrix });
    width = width;
    height = height;
    stereo = stereo;
  })

-- ── copyright extension ──

-- the record of a copyright extension's values
unfoldable pub copyright_record : List ℕ → Option CopyrightExtension
copyright_record = do
  number ← next
  flag ← next
  owner ← next
  original ← next
  reserved ← next
  marker₁ ← next
  one ← next
  marker₂ ← next
  two ← next
  marker₃ ← next
  three ← next
  made (record {
    flag = flag;
    owner = owner;
    original = original;
    number = copyright_number one two three;
  })
