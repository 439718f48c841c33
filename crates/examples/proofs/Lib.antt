-- The theorem.
pub mod Main
