pub mod Marked
pub mod Turns
