pub mod Faults
pub mod ChangeRows
pub mod Stores
pub mod Cases
pub mod Deciding
pub mod Leaves
pub mod Sharing
pub mod Working
