pub mod Ascii
pub mod Numbers
pub mod Reader
pub mod Given
