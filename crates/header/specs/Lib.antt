pub mod Says
pub mod Plans
pub mod Asks
pub mod Promises
