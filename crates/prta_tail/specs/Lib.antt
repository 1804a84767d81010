pub mod Ratios
pub mod Walk
pub mod Tail
pub mod Laws
pub mod Worked
