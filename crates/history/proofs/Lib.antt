pub mod Carried
pub mod Begun
