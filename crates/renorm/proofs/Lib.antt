pub mod CountLaws
pub mod ShiftedLaws
