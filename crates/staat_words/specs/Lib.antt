pub mod Command
pub mod Spelled
pub mod Requests
