pub mod Blocks
pub mod Answers
pub mod Promises
