pub mod Weights
pub mod Contacts
pub mod Points
pub mod ByFacets
pub mod TouchMarks
pub mod Holding
pub mod Beginning
pub mod Tightness
