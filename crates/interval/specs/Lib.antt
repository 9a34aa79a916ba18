pub mod Interval
pub mod Verdict
