pub mod Lengths
pub mod Printing
pub mod Prefixes
pub mod Fitting
pub mod Accepting
pub mod Laws
pub mod Few
