pub mod FormulaMoves
pub mod TermMoves
