-- Definitions that no public contract cites: those of private contracts and of proofs.
pub mod Laws
