pub mod Found
pub mod Fields
pub mod Lines
pub mod Promises
