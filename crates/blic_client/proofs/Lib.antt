pub mod Ends
pub mod Judging
pub mod Lines
pub mod Onward
pub mod Parting
pub mod Splitting
pub mod Way
