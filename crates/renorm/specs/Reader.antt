-- Renormalisation over many bits at once: what is computed, and no part of document 01.
use Rattle.std.specs.Prelude.{ℕ, ◌+◌, ◌-◌, ◌*◌, ◌/◌, ◌%◌, ◌^◌, List, Bool, cond, leb, Option, Some, None}
use Rattle.std.specs.Int.Count.{count_leading_zeros}
use Rattle.bits.specs.Reader.{word_at}
use Rattle.bits.specs.declared.Word.{Word}
use Rattle.renorm.specs.declared.Registers.{Registers}

-- how often a range of nine bits is doubled until it is 256 or more
abbrev pub doublings_of : ℕ → ℕ
doublings_of range = count_leading_zeros 32 range - 23

-- how many of its last `left` bits a value takes until it is 256 or more
abbrev pub needed_of : ℕ → ℕ → ℕ
needed_of value left = count_leading_zeros 64 value + left - 55

-- the value's last `left` bits, of `width` that were there, are still to be taken
unfoldable pub shifted_of : ℕ → ℕ → ℕ → ℕ → Option Registers
shifted_of value left width range =
    let k = doublings_of range in
    let n = needed_of value (left - k) in
    let rest = left - k - n in
    cond (leb n (left - k))
    (Some (record { rt = range * 2 ^ k % 256; vs = n; vt = value / 2 ^ rest % 256; taken = width - rest }))
    None

-- a borrowed bit is taken already
abbrev pub left_of : ℕ → Bool → ℕ
left_of width borrows = cond borrows (width - 1) width

-- the bits follow the head as one number, to which a borrowed one is so added
unfoldable pub after_word : Option Word → ℕ → Bool → ℕ → Option Registers
after_word (Some w) head borrows range = shifted_of (head * 2 ^ left_of w.width borrows + w.bits) (left_of w.width borrows) w.width range
after_word None head borrows range = None

abbrev pub renormalise_of : List ℕ → ℕ → ℕ → Bool → ℕ → Option Registers
renormalise_of bits place head borrows range = after_word (word_at bits place) head borrows range
