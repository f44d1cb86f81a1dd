pub mod Beginning
pub mod Problems
pub mod Reading
pub mod Truth
