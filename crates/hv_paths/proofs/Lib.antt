pub mod Filled
pub mod Fronts
pub mod Stops
pub mod Taken
