pub mod PrefixLaws
pub mod StepLaws
pub mod Theorems
pub mod Main
