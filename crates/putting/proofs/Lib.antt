pub mod LawsFours
pub mod EachTurns
pub mod ZeroTurns
pub mod GroupTurns
