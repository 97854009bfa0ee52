pub mod Laws
pub mod Turns
pub mod Marks
pub mod Meets
