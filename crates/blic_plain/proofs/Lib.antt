pub mod DrawnPoints
pub mod NodeValues
pub mod Polynomials
pub mod StoredPoints
