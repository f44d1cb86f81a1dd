pub mod Gathering
pub mod Printing
