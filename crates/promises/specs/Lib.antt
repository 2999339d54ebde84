pub mod Keeps
pub mod Choice
