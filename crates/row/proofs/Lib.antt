pub mod LawsScan
pub mod LawsRow
pub mod LawsField
pub mod KeepsRows
