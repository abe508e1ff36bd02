pub mod KeepsTold
pub mod LawsTold
