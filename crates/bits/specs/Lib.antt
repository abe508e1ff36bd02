pub mod Bits
pub mod Fields
pub mod Runs
pub mod Digits
