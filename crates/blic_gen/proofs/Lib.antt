pub mod ChainFormula
pub mod Pushed
