pub mod Places
pub mod Rows
pub mod Signed
pub mod Implied
pub mod Occurrences
pub mod Orders
pub mod Mates
pub mod Working
