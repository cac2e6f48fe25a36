pub mod Locked
pub mod Others
pub mod Freeing
pub mod Choosing
pub mod OneOrder
