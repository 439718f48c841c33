-- What document 01 says of bits, for every crate above.
pub mod Lists
pub mod Bits
pub mod Reader
