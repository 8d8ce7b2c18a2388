pub mod Rows
pub mod ActionRows
