pub mod LawsTurn
