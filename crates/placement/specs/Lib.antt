pub mod Placement
pub mod Promises
pub mod Table
