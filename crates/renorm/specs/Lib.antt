-- Renormalisation as a computation; what it is worth, crate aec proves.
pub mod Reader
