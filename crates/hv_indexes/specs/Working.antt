-- Definitions that no public contract cites: those of private contracts and of proofs.
pub mod Rows
pub mod Signed
pub mod Implied
pub mod Occurrences
pub mod Mates
pub mod Pairs
