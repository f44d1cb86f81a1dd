pub mod Plan
pub mod Progress
pub mod Step
