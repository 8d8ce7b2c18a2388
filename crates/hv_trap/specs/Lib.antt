pub mod Conjunctions
pub mod Trap
pub mod Written
pub mod Pruner
pub mod Working
