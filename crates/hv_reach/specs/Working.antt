-- Definitions that no public contract cites: those of private contracts and of proofs.
pub mod Index
pub mod Passed
pub mod Waiting
pub mod Table
pub mod Course
pub mod Written
pub mod NoteRows
pub mod Pruners
pub mod Fitting
