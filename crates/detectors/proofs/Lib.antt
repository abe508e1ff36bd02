pub mod LawsCounts
pub mod LawsHeld
pub mod LawsInside
pub mod LawsSums
pub mod KeepsDetectors
