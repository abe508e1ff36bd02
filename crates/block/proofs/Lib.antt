pub mod LawsReader
pub mod LawsMeets
pub mod KeepsReader
pub mod KeepsJudged
pub mod KeepsMarked
pub mod KeepsAltered
