pub mod WordLaws
pub mod Main
