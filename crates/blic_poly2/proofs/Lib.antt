pub mod LinearValues
pub mod Roots
pub mod Values
