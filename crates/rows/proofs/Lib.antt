pub mod Elements
pub mod Paste
pub mod Blocks
pub mod Sizes
