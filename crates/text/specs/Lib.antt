-- What is promised of texts put into lent bytes.
pub mod Text
