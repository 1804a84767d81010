pub mod Certificate
pub mod Candidates
pub mod Search
pub mod Verdict
pub mod Laws
pub mod Worked
pub mod Levels
