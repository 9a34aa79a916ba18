pub mod Lent
pub mod Execute
