pub mod Find
pub mod Totals
pub mod Faults
pub mod Faultless
pub mod Near
pub mod Latest
pub mod AddedTicks
