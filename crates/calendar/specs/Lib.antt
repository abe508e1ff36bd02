pub mod Years
pub mod Leaps
pub mod Promises
