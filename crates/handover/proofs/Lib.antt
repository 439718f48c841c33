-- The laws that the proofs cite, and the theorems.
pub mod HandedLaws
pub mod CountLaws
pub mod MarkLaws
pub mod Main
