pub mod DrawRun
pub mod Draws
