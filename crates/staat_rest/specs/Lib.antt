pub mod Merging
pub mod Nodes
pub mod Turning
