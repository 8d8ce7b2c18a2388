pub mod Store
pub mod Inquiry
pub mod Working
