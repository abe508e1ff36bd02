pub mod LawsFromC
pub mod KeepsFromC
