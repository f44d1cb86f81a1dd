pub mod Bounds
pub mod Finding
pub mod Halves
pub mod Levels
pub mod Literals
pub mod Numbering
pub mod Standing
pub mod Whole
