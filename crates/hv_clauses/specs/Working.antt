-- Definitions that no public contract cites: those of private contracts and of proofs.
pub mod Operands
pub mod Choices
pub mod Enabling
pub mod Posed
pub mod Problem
pub mod Found
pub mod Start
pub mod Early
pub mod Front
pub mod Affected
pub mod Owners
pub mod Laws
