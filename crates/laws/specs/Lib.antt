pub mod Pick
pub mod Newton
pub mod Rows
