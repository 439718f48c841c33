-- Document 02, E9: the entries of the tables; and how the words hold them.
pub mod Entries
pub mod Inside
