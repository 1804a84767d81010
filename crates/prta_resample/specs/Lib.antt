pub mod Resample
pub mod Laws
pub mod WorkedResamplings
