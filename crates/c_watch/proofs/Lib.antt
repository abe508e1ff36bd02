pub mod KeepsRows
