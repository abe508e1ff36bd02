pub mod Digits
pub mod Tags
pub mod Promises
pub mod Table
