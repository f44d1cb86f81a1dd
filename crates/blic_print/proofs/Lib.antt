mod Digits
mod Lines
pub mod Printed
mod Waiting
