pub mod Fitted
pub mod Honest
pub mod Moves
pub mod Standing
