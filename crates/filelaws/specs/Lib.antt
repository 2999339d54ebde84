pub mod Known
pub mod Fine
pub mod Faults
