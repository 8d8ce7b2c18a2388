pub mod Fault
pub mod DualFault
pub mod Working
