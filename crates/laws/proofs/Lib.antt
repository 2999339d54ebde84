pub mod Modular
pub mod Newton
pub mod Digits
pub mod Trailing
pub mod Reach
pub mod Rows
pub mod Lists
