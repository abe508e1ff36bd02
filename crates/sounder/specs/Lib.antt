pub mod Words
pub mod Frame
pub mod Judging
pub mod Promises
