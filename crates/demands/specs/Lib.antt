pub mod Checked
pub mod Compared
pub mod Inserted
pub mod Different
pub mod BeforeA1
