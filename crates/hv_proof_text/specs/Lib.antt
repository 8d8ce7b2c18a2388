pub mod Reading
pub mod Closed
pub mod Working
