pub mod PutLaws
pub mod SpellingLaws
pub mod ReadLaws
pub mod Main
