-- Document 02, E12: cutting at a repeated header.
pub mod Cuts
pub mod Reader
