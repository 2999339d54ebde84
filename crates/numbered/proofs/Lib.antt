pub mod Inverses
pub mod Texts
