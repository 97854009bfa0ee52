pub mod Evaluated
pub mod Compared
