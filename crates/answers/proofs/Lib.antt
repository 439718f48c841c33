-- The laws of answers, for every crate above.
pub mod OutcomeLaws
pub mod ResultLaws
