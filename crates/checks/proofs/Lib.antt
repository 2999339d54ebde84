pub mod Scanning
pub mod Cycles
pub mod Joining
