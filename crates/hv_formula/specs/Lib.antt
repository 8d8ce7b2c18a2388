pub mod Clausal
pub mod Denial
pub mod Kinded
pub mod Negative
pub mod Positive
pub mod Rest
pub mod Walked
pub mod Working
