pub mod Contacts
pub mod Touching
pub mod Beginnings
pub mod LocalTexts
pub mod Tightness
