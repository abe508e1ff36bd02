pub mod FromC
