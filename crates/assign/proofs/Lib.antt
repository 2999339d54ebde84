pub mod Laws
pub mod Along
pub mod Passes
