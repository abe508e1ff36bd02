pub mod Promises
pub mod Sections
pub mod Words
