pub mod Codes
pub mod ListedStates
pub mod Walked
pub mod Working
