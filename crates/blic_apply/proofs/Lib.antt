pub mod Changing
pub mod Combining
pub mod Leaves
pub mod Table
pub mod Waits
pub mod Walk
