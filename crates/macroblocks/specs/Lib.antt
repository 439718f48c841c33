-- Document 01, "Grammar of a stream": macroblocks.
pub mod Macroblocks
