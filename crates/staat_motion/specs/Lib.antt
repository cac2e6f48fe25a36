pub mod Frames
pub mod Motions
pub mod Shadows
pub mod Spans
