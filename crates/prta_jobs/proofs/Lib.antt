pub mod NextRelease
pub mod Levels
pub mod JobLists
pub mod OrderLists
pub mod JobsBefore
pub mod Counting
