-- Definitions that no public contract cites: those of private contracts and of proofs.
pub mod Tokens
pub mod Forms
pub mod Pieces
pub mod Writing
pub mod Gathering
pub mod Heads
