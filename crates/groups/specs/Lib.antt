-- What is answered for group g of a stream.
pub mod Groups
pub mod Reader
pub mod Inside
