pub mod LawsDecimal
pub mod LawsPut
