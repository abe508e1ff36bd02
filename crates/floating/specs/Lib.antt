pub mod Cases
pub mod Floating
pub mod Promises
