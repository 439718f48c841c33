-- The interface that C and Rust call.
use Rattle.std.specs.Prelude.{ℕ}

-- the number of this interface, raised when it changes
abbrev pub version : ℕ
version = 3
