pub mod RateLaws
pub mod TableLaws
pub mod Main
