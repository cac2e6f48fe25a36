pub mod Drills
pub mod Exploding
pub mod Planning
