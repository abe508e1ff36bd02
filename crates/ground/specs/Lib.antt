pub mod Choice
pub mod Grounds
pub mod Refusals
