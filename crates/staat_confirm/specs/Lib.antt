pub mod Members
pub mod Splits
pub mod ShortVerdicts
pub mod Owners
pub mod Found
