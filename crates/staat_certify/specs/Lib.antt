pub mod Walls
pub mod Plans
pub mod Witnesses
pub mod WitnessListings
pub mod Visits
pub mod Certifying
