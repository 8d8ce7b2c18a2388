pub mod Texts
pub mod PieceVerdicts
pub mod Stopping
pub mod Checkers
pub mod Versions
pub mod Working
