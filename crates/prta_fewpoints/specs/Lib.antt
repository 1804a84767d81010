pub mod Wide
pub mod Choices
pub mod Recursion
pub mod Costs
pub mod Laws
pub mod Worked
