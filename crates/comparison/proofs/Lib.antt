pub mod Comparing
pub mod Asked
