pub mod Noted
pub mod Sums
pub mod LedgerState
pub mod WorkedSums
