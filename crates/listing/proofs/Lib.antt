pub mod ListingLaws
pub mod Most
pub mod Coincide
