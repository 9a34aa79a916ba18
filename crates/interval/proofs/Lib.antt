pub mod PieceLaws
pub mod IntervalLaws
pub mod Coincide
