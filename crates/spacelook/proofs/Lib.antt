pub mod KeepsArrays
pub mod KeepsNumbers
pub mod LawsArrays
pub mod LawsFound
pub mod LawsNumbers
