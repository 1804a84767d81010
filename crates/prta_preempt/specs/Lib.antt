pub mod Delay
pub mod Laws
pub mod WorkedDelays
