pub mod KeepsPlacement
pub mod KeepsOnce
pub mod LawsBelow
pub mod LawsPlacement
pub mod LawsRecords
pub mod Rows
