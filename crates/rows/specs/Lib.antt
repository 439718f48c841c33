-- Document 01, "Rows": whether a row exists, and its body.
pub mod Rows
