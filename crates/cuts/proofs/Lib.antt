pub mod RestLaws
pub mod PlaceLaws
pub mod FilingLaws
pub mod Main
