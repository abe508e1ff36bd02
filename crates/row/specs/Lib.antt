pub mod Pixels
pub mod Rows
pub mod Field
pub mod Suits
pub mod Earlier
pub mod Promises
