pub mod Alike
pub mod Exactly
