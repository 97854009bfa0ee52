pub mod Lists
pub mod Exact
pub mod Agreement
pub mod Examples
