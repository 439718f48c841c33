-- What C and Rust are answered by value.
pub mod Answers
