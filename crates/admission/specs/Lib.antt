pub mod Admission
pub mod Ready
