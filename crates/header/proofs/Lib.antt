pub mod LawsPlans
pub mod LawsAsks
pub mod KeepsHeader
pub mod LawsThen
