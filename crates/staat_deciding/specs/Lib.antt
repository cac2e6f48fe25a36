pub mod Blocks
pub mod Certificates
pub mod Deciding
pub mod RestTexts
