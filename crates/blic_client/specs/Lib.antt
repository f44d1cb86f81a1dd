pub mod Linked
pub mod UnderWay
