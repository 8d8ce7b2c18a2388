pub mod Needed
pub mod Explained
pub mod Working
