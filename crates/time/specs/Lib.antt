pub mod Years
pub mod Times
pub mod Promises
pub mod Table
