pub mod Writing
pub mod Decimals
