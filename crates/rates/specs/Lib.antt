-- Document 01, "Bins": what belongs to a context's rate; document 02, E9: its tables.
pub mod Rates
pub mod Tables
pub mod Claims
