pub mod Advanced
pub mod Coming
pub mod Going
pub mod Lined
pub mod Numerals
pub mod Pieced
pub mod Repeated
pub mod Whole
