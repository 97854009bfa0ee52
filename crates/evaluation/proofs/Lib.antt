pub mod Evaluating
pub mod Asked
