-- Definitions that no public contract cites: those of private contracts and of proofs.
pub mod Setting
pub mod TableState
pub mod Good
pub mod DeadLines
pub mod Pruning
