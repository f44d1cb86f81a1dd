pub mod Beginning
pub mod Faults
pub mod Known
pub mod Problem
pub mod Stops
pub mod StopTexts
pub mod Tasks
