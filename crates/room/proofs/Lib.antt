pub mod LawsLaid
pub mod LawsWritten
