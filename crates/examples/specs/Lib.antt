-- Document 01, "Table of proved examples", and its rules at their limits.
pub mod Examples
pub mod Limits
