pub mod KeepsReport
pub mod LawsChanged
pub mod LawsTexts
