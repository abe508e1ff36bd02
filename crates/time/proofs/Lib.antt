pub mod LawsYears
pub mod LawsTimes
pub mod KeepsTimes
pub mod KeepsTable
