pub mod LawsTimes
pub mod KeepsTimes
