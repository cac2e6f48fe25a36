pub mod Overlaps
pub mod Placing
