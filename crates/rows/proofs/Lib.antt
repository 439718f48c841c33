pub mod RowLaws
pub mod Filed
pub mod Main
