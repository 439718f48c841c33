-- One unit of a stream, read in a state.
pub mod Reader
