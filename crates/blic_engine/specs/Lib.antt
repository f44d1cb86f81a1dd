pub mod Costs
pub mod Joins
pub mod Rooms
