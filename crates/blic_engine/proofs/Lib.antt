pub mod Answering
pub mod FlatPoints
pub mod Rooms
pub mod Solved
