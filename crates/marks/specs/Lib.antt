pub mod Inserted
