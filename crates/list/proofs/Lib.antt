pub mod LawsFit
