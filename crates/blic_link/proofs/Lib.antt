pub mod Echoing
pub mod Joined
pub mod Marked
pub mod Paces
