-- Document 01, "Units".
pub mod Prefix
pub mod Kinds
pub mod Inside
