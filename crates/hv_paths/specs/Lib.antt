pub mod Along
pub mod Working
