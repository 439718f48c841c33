pub mod ContextLaws
pub mod Main
