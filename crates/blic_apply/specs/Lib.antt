pub mod Changing
pub mod Combining
pub mod Operations
pub mod PartTable
