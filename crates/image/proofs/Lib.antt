pub mod Lengths
pub mod Places
pub mod Changes
pub mod Bounds
pub mod Ready
