pub mod KeepsParity
pub mod LawsSections
pub mod LawsVerdicts
pub mod LawsWords
pub mod KeepsSections
