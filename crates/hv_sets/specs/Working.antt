-- Definitions that no public contract cites: those of private contracts and of proofs.
pub mod Cubes
pub mod KeptStates
pub mod Names
pub mod Pieces
pub mod SharedPieces
