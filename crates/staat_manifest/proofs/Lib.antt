pub mod Accepted
pub mod RuleLemmas
pub mod ValueLemmas
pub mod PlacementLemmas
