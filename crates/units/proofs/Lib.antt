pub mod LengthLaws
pub mod UnitLaws
pub mod Main
