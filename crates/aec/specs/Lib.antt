-- Document 01, "Bins": the decoder, what its answers say, and the words of the theorems.
pub mod Bins
pub mod Says
pub mod Claims
pub mod Inside
