pub mod Scrub
pub mod Onward
