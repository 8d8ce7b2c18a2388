pub mod Forms
pub mod Parsers
pub mod Positions
pub mod Reads
pub mod Working
