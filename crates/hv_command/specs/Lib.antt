pub mod Words
pub mod Replies
pub mod Sample
pub mod Answer
pub mod Working
