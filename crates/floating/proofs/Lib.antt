pub mod KeepsFloating
pub mod KeepsOrder
pub mod LawsExact
pub mod LawsOne
pub mod LawsPower
pub mod LawsReading
