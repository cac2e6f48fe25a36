pub mod Chains
pub mod Holds
pub mod Links
pub mod VisitedNodes
pub mod Partials
pub mod Reaching
