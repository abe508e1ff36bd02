pub mod LawsNumbers
