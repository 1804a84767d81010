pub mod Dependence
pub mod Edits
pub mod Steps
pub mod Parts
pub mod Sayings
pub mod Lines
pub mod Marks
