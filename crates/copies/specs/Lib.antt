pub mod Copies
pub mod Agreed
pub mod Promises
