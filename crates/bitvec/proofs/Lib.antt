pub mod Inverses
pub mod Laws
pub mod Columns
pub mod Text
pub mod SmtLib
