pub mod LawsSame
pub mod LawsCopies
pub mod LawsAgreed
pub mod KeepsCopies
