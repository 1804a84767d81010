pub mod Passing
pub mod Answer
pub mod Laws
pub mod Worked
