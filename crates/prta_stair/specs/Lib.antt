pub mod Steps
pub mod Reading
pub mod Setting
pub mod Moving
pub mod Adding
pub mod Stair
pub mod Laws
pub mod Worked
