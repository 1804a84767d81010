pub mod Passing
pub mod Greedy
pub mod Fewer
pub mod Verdict
pub mod Placing
pub mod Worked
