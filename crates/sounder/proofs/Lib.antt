pub mod LawsFrame
pub mod LawsMade
pub mod LawsWords
pub mod LawsJudging
pub mod KeepsFrame
pub mod KeepsSounder
