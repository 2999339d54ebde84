pub mod Call
pub mod Result
pub mod Trace
pub mod Cases
pub mod Programs
