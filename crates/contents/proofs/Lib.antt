pub mod SegmentLaws
pub mod Coincide
