-- Macroblock rows: their laws, and the theorem.
pub mod RowLaws
pub mod Main
