-- Definitions that no public contract cites: those of private contracts and of proofs.
pub mod Flags
pub mod Views
pub mod Work
pub mod Gathered
pub mod Stores
pub mod Asked
pub mod Deciding
pub mod Candidates
pub mod Denied
pub mod Framed
pub mod Excluded
pub mod Formulas
pub mod Joints
pub mod Sharing
pub mod Told
