pub mod KeepsListing
pub mod KeepsProgram
pub mod LawsTexts
