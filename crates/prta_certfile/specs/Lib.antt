pub mod Steps
pub mod Text
pub mod Reading
pub mod Parts
pub mod Laws
pub mod Worked
