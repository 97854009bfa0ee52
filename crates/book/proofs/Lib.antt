pub mod Meaning
pub mod Steps
pub mod Opened
pub mod Sought
pub mod Changed
pub mod Back
pub mod Kept
pub mod Wanted
