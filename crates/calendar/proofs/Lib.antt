pub mod LawsYears
pub mod LawsLeaps
pub mod LawsLists
pub mod KeepsLists
