pub mod Index
pub mod Reached
pub mod Written
pub mod Pruners
pub mod Working
