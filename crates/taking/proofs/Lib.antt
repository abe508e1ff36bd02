pub mod LawsFours
pub mod EachTurns
pub mod GroupTurns
