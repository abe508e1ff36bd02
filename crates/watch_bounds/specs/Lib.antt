pub mod Sets
pub mod Bounds
pub mod Promises
