pub mod Causes
pub mod Checking
pub mod Confirming
pub mod Feeding
pub mod Reading
