-- Definitions that no public contract cites: those of private contracts and of proofs.
pub mod Decimals
pub mod Fields
pub mod Files
pub mod Fronts
pub mod LineCuts
pub mod LineParts
pub mod Pieces
pub mod States
