-- What document 01 says of the bodies of sequence headers and extensions: records, answers and refusals.
pub mod Records
pub mod Extensions
pub mod Bodies
pub mod Answers
pub mod Breaks
pub mod Reader
