-- Definitions that no public contract cites: those of private contracts and of proofs.
pub mod Codes
pub mod Words
pub mod SomeStates
pub mod Coding
pub mod Places
pub mod Listing
pub mod Columns
pub mod Holders
pub mod Owners
pub mod Laws
pub mod Search
pub mod Results
