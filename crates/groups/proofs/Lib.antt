-- The laws of the walk and of readings, and the theorems.
pub mod WalkLaws
pub mod ReadingLaws
pub mod Theorems
pub mod Main
