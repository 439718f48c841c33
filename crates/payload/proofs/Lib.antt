pub mod JoinedLaws
pub mod EscapeLaws
pub mod GolombLaws
pub mod GolombTheorems
pub mod Theorems
pub mod Main
