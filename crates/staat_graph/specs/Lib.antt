pub mod Graphs
pub mod Blocking
pub mod Growing
pub mod Rows
