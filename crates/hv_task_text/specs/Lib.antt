pub mod Canonical
pub mod TaskFile
pub mod TaskText
pub mod Words
pub mod Written
pub mod Working
