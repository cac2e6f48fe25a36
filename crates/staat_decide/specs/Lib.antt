pub mod Arcs
pub mod Asking
pub mod Decided
pub mod Ends
pub mod Keeping
pub mod Labels
pub mod Peelings
pub mod Reaching
