-- Definitions that no public contract cites: those of private contracts and of proofs.
pub mod Marks
pub mod Trail
pub mod Effect
pub mod Scan
pub mod Completion
pub mod Buffers
pub mod Chase
pub mod FoundRun
pub mod UnitRounds
pub mod Laws
