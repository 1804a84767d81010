pub mod Tails
pub mod CellByCell
