-- The laws that the proofs cite, each file named by what they are about, and the theorems.
pub mod NumberLaws
pub mod AnswerLaws
pub mod ExtensionLaws
pub mod BreakLaws
pub mod PlaceLaws
pub mod SaysLaws
pub mod Main
