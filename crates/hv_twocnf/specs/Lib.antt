pub mod Fault
pub mod Working
