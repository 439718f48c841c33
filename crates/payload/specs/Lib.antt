-- Document 01, "Escape removal (Annex A)": removal, and Exp-Golomb numbers.
pub mod Escape
pub mod Golomb
pub mod Reader
pub mod Inside
