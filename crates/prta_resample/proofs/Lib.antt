pub mod Places
pub mod Keeping
pub mod Moving
pub mod Upward
pub mod Downward
