pub mod Made
pub mod Promises
