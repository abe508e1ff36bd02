pub mod Verdicts
pub mod Fills
pub mod Rules
pub mod Offers
pub mod Promises
pub mod Filled
