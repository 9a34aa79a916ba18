pub mod FirstOf
pub mod Judge
