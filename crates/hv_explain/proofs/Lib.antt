pub mod Marking
pub mod Lines
pub mod OneText
