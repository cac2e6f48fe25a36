pub mod Orders
pub mod OrderTexts
pub mod Holding
