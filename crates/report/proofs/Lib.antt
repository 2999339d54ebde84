pub mod Lengths
pub mod Printing
