-- Document 01, "Grammar of a stream" and "Rows": readings with no reader, the refusals, and the reader apart.
pub mod Lists
pub mod Grammar
pub mod Rows
pub mod Reasons
pub mod Refusals
pub mod Reader
