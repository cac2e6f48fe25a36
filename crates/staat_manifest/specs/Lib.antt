pub mod Values
pub mod Placements
pub mod Answers
pub mod Rules
pub mod Listings
