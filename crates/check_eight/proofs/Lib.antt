pub mod LawsLinear
pub mod LawsEight
