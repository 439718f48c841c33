-- What filing answers and leaves in the lent words.
pub mod Filing
pub mod Reader
pub mod Inside
