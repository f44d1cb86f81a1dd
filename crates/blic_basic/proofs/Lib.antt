pub mod Appended
pub mod Bends
pub mod Spares
