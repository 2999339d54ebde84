pub mod Wrong
pub mod Rows
pub mod Existence
