pub mod Forms
pub mod Working
