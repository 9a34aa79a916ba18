pub mod SameLaws
pub mod Parts
pub mod FirstLaws
pub mod Coincide
