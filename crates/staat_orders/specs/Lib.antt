pub mod Beginning
pub mod Ordering
