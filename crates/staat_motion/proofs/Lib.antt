pub mod SpanSteps
pub mod Zips
pub mod Walls
pub mod Wholes
pub mod Kept
