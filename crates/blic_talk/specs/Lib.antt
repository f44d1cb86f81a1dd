pub mod Holding
pub mod Talking
pub mod Wire
