pub mod Soundness
pub mod Working
