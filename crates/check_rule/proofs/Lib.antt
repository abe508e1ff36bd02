pub mod LawsXor
pub mod LawsFeed
pub mod LawsFinds
pub mod LawsPasses
pub mod Table
