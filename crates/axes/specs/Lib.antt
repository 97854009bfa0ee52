pub mod Text
pub mod Given
