pub mod LawsRecords
pub mod KeepsRecords
