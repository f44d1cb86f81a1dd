pub mod Short
pub mod Waits
