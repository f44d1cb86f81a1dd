pub mod Interpolation
pub mod Prime
pub mod Ring
