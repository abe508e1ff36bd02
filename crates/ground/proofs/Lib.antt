pub mod LawsChoice
pub mod LawsGrounds
pub mod LawsTests
pub mod LawsWalk
pub mod LawsFilling
pub mod LawsLowest
pub mod LawsRefusals
