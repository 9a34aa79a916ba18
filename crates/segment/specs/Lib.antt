pub mod Segment
pub mod Rules
pub mod Places
