pub mod Onward
pub mod Reading
pub mod Replying
pub mod Sessions
pub mod Turning
pub mod Turns
