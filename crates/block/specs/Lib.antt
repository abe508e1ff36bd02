pub mod Layout
pub mod Grounds
pub mod Answers
pub mod Meets
pub mod Promises
