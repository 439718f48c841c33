-- The laws of the mark that stands for no bit, those of what is answered by readings, and the theorems.
pub mod MarkLaws
pub mod ReadingLaws
pub mod Main
