pub mod Answers
pub mod Arrays
pub mod Found
pub mod Numbers
pub mod Promises
