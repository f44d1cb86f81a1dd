pub mod Drawing
pub mod Passing
pub mod Saying
pub mod Sessions
pub mod Settling
pub mod Starting
