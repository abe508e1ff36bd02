pub mod LawsDigits
pub mod LawsTags
pub mod LawsBounds
pub mod KeepsTags
pub mod KeepsTable
