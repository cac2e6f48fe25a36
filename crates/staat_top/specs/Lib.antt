pub mod Headline
pub mod Named
pub mod Opened
pub mod Replies
pub mod Runs
