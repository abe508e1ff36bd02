pub mod Check
pub mod Finds
