pub mod KeepsFields
pub mod KeepsLines
pub mod KeepsPromises
pub mod LawsFound
pub mod LawsLines
