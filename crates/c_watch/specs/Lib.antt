pub mod Watches
pub mod Promises
