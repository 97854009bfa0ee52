pub mod Form
pub mod Reader
