pub mod LawsBlocks
pub mod LawsParts
pub mod LawsWrite
pub mod KeepsWriter
pub mod KeepsReadBack
pub mod KeepsWrittenBack
