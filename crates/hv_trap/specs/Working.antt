-- Definitions that no public contract cites: those of private contracts and of proofs.
pub mod Trap
pub mod Asking
pub mod Room
pub mod Marks
pub mod Quick
pub mod Fitting
