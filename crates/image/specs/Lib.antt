pub mod Layout
pub mod Lengths
pub mod Places
pub mod Changes
pub mod Ready
pub mod Sights
