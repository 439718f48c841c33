-- The interface that C and Rust call.
pub mod Interface
