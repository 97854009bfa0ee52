pub mod Image
pub mod Calls
pub mod Frame
