-- The theorems.
pub mod Main
