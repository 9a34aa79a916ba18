pub mod FirstLaws
pub mod PlaceLaws
pub mod BlockLaws
pub mod Alike
pub mod Coincide
