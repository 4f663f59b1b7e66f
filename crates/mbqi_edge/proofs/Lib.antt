pub mod ReadBytes
pub mod TakenPieces
