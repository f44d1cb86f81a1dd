pub mod Building
pub mod Numbers
pub mod Parsing
pub mod PlainWords
pub mod Ranges
