pub mod Response
pub mod Delays
pub mod Coming
pub mod Reach
pub mod Backlog
pub mod Chance
pub mod Laws
pub mod Worked
