pub mod Constants
pub mod Refused
