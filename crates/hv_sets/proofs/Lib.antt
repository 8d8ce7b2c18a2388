pub mod Cubes
pub mod Listed
pub mod Named
pub mod Pieces
pub mod Placed
pub mod Short
pub mod Truths
