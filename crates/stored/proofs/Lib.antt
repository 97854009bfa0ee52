pub mod Stored
pub mod Image
