-- What the papers say of answers: refusal numbers, what refusals carry, and limits, for every crate above.
pub mod Answers
pub mod Missing
pub mod Limits
pub mod Results
