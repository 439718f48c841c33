-- Document 01, "Bins": contexts.
pub mod Contexts
