-- Definitions that no public contract cites: those of private contracts and of proofs.
pub mod Logs
pub mod LogText
pub mod Reading
pub mod Expanded
pub mod Following
pub mod Leading
pub mod PrunedLines
pub mod ClosingLines
pub mod Progress
