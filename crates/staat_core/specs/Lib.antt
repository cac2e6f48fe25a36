pub mod Sources
pub mod Moves
pub mod Cores
pub mod Listed
pub mod TableCores
pub mod Bonds
pub mod VertexSearch
