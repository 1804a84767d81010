pub mod TaskSet
pub mod Ranges
pub mod Instant
pub mod Permutation
pub mod Order
pub mod Backlog
pub mod Worked
pub mod Laws
