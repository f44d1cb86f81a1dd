pub mod Chains
pub mod Products
