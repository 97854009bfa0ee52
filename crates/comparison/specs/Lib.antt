pub mod Axes
pub mod Comparing
