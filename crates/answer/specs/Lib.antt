pub mod Answer
pub mod Outcome
