pub mod Adapters
pub mod Listing
pub mod Memory
pub mod Named
pub mod Opening
pub mod Outside
pub mod Seeding
pub mod Watching
