pub mod Numbers
pub mod Direction
pub mod Entries
pub mod Failing
pub mod Laws
pub mod Worked
