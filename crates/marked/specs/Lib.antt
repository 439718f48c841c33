-- Exp-Golomb numbers and bins by value, with the marks of none.
pub mod Payloads
