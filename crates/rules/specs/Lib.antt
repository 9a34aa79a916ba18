pub mod Rules
pub mod Intervals
pub mod ReadAll
