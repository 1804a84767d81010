pub mod Points
pub mod Counts
pub mod Parts
pub mod LaterTimes
pub mod Laws
pub mod Worked
