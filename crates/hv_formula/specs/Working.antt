-- Definitions that no public contract cites: those of private contracts and of proofs.
pub mod Laws
pub mod Kinded
pub mod Closure
pub mod Lists
pub mod Asking
pub mod Walked
pub mod Rest
