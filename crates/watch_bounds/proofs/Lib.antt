pub mod LawsBounds
pub mod LawsSets
pub mod KeepsNumbers
