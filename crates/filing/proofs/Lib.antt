-- The laws of the passes, and the theorems.
pub mod ScopeLaws
pub mod PassLaws
pub mod Demand
pub mod Main
