-- Definitions that no public contract rests on.
pub mod Reads
