pub mod LawsMade
pub mod KeepsMade
