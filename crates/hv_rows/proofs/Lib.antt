pub mod Entered
pub mod Rowed
