pub mod Listing
pub mod Packing
pub mod Pairs
pub mod Queue
