pub mod AxisWalls
pub mod Few
pub mod Pairs
pub mod Scans
