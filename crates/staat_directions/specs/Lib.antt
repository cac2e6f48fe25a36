pub mod CellTables
pub mod Graphing
pub mod Looking
pub mod Pairs
