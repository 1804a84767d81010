pub mod Cells
pub mod Sums
pub mod Chances
pub mod Windows
pub mod Breaks
pub mod Stores
pub mod Shifting
