pub mod LaterOperations
pub mod LaterRuns
pub mod LaterTables
pub mod EachPasses
pub mod PassingChances
pub mod AddedTicks
pub mod Slacks
