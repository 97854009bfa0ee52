pub mod Made
pub mod History
pub mod Words
pub mod Ties
pub mod Exact
pub mod Shift
pub mod PassList
pub mod Annex
