-- The laws that the proofs cite, each file named by what they are about, and the theorems.
pub mod LayoutLaws
pub mod ReadingLaws
pub mod EndLaws
pub mod OwnerLaws
pub mod JudgeLaws
pub mod ObeyLaws
pub mod BreakLaws
pub mod PlaceLaws
pub mod TakenLaws
pub mod Main
