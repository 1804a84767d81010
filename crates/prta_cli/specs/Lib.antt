pub mod Words
pub mod Times
pub mod Refused
pub mod Answer
pub mod Ending
pub mod Causes
